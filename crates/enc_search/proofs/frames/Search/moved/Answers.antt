use Rattle.std.proofs.Common.{◌≡◌, inl, inr, ℕ, ◌/◌, ◌%◌, ◌+◌, ◌<◌, ◌≤◌, arith}
use Rattle.std.proofs.lemmas.Bool.{cases_lt}
use Rattle.thr_modes.specs.Vectors.{offset_of}
use Rattle.enc_search.specs.Searched.{even}
use Rattle.enc_search.specs.Views.{distance_by}
use Rattle.enc_search.proofs.AllowedLemmas.{new_allowed}
use Rattle.enc_search.proofs.LeastLemmas.{offset_is}
use Rattle.enc_search.proofs.frames.Search.moved.Goals as goal

pub loop-k-preserved : goal.loop-k-preserved
loop-k-preserved c = record {
  distance = c.better-best.ensures.distance;
  least = least;
  no_more = omega (arith, c.better-best.ensures.no_more, c.loop-k.invariant.no_more);
  allowed = λ memory h. c.better-best.ensures.allowed memory (c.loop-k.invariant.allowed memory h) (new_allowed memory c.even_vector.result);
}
  where
    last : (k : ℕ) → k ≡ c.loop-k.k → c.better-best.result.distance ≤ distance_by c.args.self.now 2 (record { x = even (k % 9); y = even (k / 9) })
    last k e =
        let is = offset_is (offset_of c.even_vector.result) (even (c.loop-k.k % 9)) (even (c.loop-k.k / 9)) c.even_vector.ensures.across c.even_vector.ensures.upwards in
        rw e (rw is at c.better-best.ensures.least)

    least : (k : ℕ) → k < c.loop-k.k + 1 → c.better-best.result.distance ≤ distance_by c.args.self.now 2 (record { x = even (k % 9); y = even (k / 9) })
    least k h = elim (cases_lt k c.loop-k.k) as (λ _. c.better-best.result.distance ≤ distance_by c.args.self.now 2 (record { x = even (k % 9); y = even (k / 9) })) [
      | inl before ↦ omega (arith, c.better-best.ensures.no_more, c.loop-k.invariant.least k before)
      | inr past ↦ last k (omega (arith, h, past))
    ]
