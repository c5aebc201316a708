use Rattle.std.proofs.Common.{◌≡◌, ◌∙◌, ◌+◌, ◌-◌, ◌<◌, ℕ, List, length, get_or, set, length-set, ap, arith}
use Rattle.std.proofs.Common.{get_or-set_other, get_or-set_same, below_more, ◌≢◌}
use Rattle.vid_plane.specs.Picture.{pixel}
use Rattle.vid_plane.proofs.PictureLemmas.{get_or-run_of}
use Rattle.thr_loop.proofs.edges.upright_lines.Goals as goal

-- one line more is read
one_more : (xs : List ℕ) (f : ℕ → ℕ) (i v k : ℕ) → i < length xs → ((j : ℕ) → j < i → get_or xs j 0 ≡ f j) → v ≡ f i → k < i + 1 → get_or (set xs i v) k 0 ≡ f k
one_more xs f i v k room known new h = below_more (λ j. get_or (set xs i v) j 0 ≡ f j) i
    (λ j lt. let ne : j ≢ i = omega arith in rw get_or-set_other (known j lt)) (rw get_or-set_same new) k h

pub loop-k-preserved : goal.loop-k-preserved
loop-k-preserved c =
    let p = c.args.plane.now in
    let x = c.args.x in
    let y = c.args.y in
    let k : ℕ = c.loop-k.k in
    let lines = c.loop-k.lines in
    let four = c.four.result in
    let read : (j : ℕ) → j < 4 → get_or four j 0 ≡ pixel p (x - 2 + j) (y + k) = λ j h. ap (λ xs. get_or xs j 0) c.four.ensures.value ∙ get_or-run_of p (x - 2) (y + k) 4 j h in
    let at : (j u : ℕ) → j < 4 → x - 2 + j ≡ u → get_or four j 0 ≡ pixel p u (y + k) = λ j u h e. read j h ∙ ap (λ z. pixel p z (y + k)) e in record {
      whole0 = length-set lines.p0 k (get_or four 0 0) ∙ c.loop-k.invariant.whole0;
      whole1 = length-set lines.p1 k (get_or four 1 0) ∙ c.loop-k.invariant.whole1;
      whole2 = length-set lines.p2 k (get_or four 2 0) ∙ c.loop-k.invariant.whole2;
      whole3 = length-set lines.p3 k (get_or four 3 0) ∙ c.loop-k.invariant.whole3;
      first = λ j h. one_more lines.p0 (λ n. pixel p (x - 2) (y + n)) k (get_or four 0 0) j (omega arith) c.loop-k.invariant.first (at 0 (x - 2) (omega arith) (omega arith)) h;
      second = λ j h. one_more lines.p1 (λ n. pixel p (x - 1) (y + n)) k (get_or four 1 0) j (omega arith) c.loop-k.invariant.second (at 1 (x - 1) (omega arith) (omega arith)) h;
      third = λ j h. one_more lines.p2 (λ n. pixel p x (y + n)) k (get_or four 2 0) j (omega arith) c.loop-k.invariant.third (at 2 x (omega arith) (omega arith)) h;
      fourth = λ j h. one_more lines.p3 (λ n. pixel p (x + 1) (y + n)) k (get_or four 3 0) j (omega arith) c.loop-k.invariant.fourth (at 3 (x + 1) (omega arith) (omega arith)) h;
    }
