use Rattle.std.proofs.Common.{◌≤◌, arith}
use Rattle.thr_modes.specs.Vectors.{offset_of, still}
use Rattle.enc_search.specs.Found.{IsAllowed}
use Rattle.enc_search.specs.Views.{distance_by, memory_of}
use Rattle.enc_search.proofs.AllowedLemmas.{flat_allowed, golden_allowed, last_allowed, last2_allowed, still_allowed, vector_is}
use Rattle.enc_search.proofs.LeastLemmas.{least_found}
use Rattle.enc_search.proofs.frames.Search.found.Goals as goal

pub returns : goal.returns
unfolding memory_of offset_of
returns c =
    let s = c.args.self.now in
    let r = c.args.remembered in
    let memory = memory_of r in
    let first : IsAllowed memory c.still-still.result.mode (offset_of c.still-still.result.vector) = rw (c.still-still.ensures.mode, c.still-still.ensures.vector) (still_allowed memory) in
    let last = c.better-last.ensures.allowed memory first (last_allowed memory (vector_is r.last1)) in
    let last2 = c.better-last2.ensures.allowed memory last (last2_allowed memory (vector_is r.last2)) in
    let golden = c.better-golden.ensures.allowed memory last2 (golden_allowed memory) in
    let flat = c.better-flat.ensures.allowed memory golden (flat_allowed memory) in
    let one : c.better-flat.result.distance ≤ distance_by s 1 still = c.better-flat.ensures.least in
    let five : c.better-golden.result.distance ≤ distance_by s 5 still = c.better-golden.ensures.least in
    let moved = c.moved-moved.ensures.allowed memory flat in
    record {
      allowed = c.refined.ensures.allowed memory moved;
      least = least_found s c.refined.result.mode (offset_of c.refined.result.vector) c.refined.result.distance c.refined.ensures.distance (omega (arith, one, c.moved-moved.ensures.no_more, c.refined.ensures.no_more))
          (omega (arith, five, c.better-flat.ensures.no_more, c.moved-moved.ensures.no_more, c.refined.ensures.no_more)) (λ k h. omega (arith, c.moved-moved.ensures.least k h, c.refined.ensures.no_more));
    }
