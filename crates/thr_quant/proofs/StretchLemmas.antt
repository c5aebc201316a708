-- The range that holds a quantiser index: found at the first that ends behind it. `stretch_at` cites these.
use Rattle.std.proofs.Common.{◌≡◌, ℕ, ◌+◌, ◌<◌, ◌≤◌, true, false, List, length, get_or, drop, find, Some, refl, add-one}
use Rattle.std.proofs.Math.Seq.{drop-cons}
use Rattle.std.proofs.Math.Dec.{leb}
use Rattle.std.proofs.lemmas.Bool.{le-leb, lt-leb}
use Rattle.thr_quant.specs.declared.ranges.Range.{Range}
use Rattle.thr_quant.specs.Ranges.{Ranges, NameMatrices}
use Rattle.thr_quant.specs.Matrix.{holds, stretches}

-- the range that is next, where it ends at the index or behind it
pub stretch_found : (qi first from i : ℕ) (list : List Range) (blank : Range) → i < length list → first ≤ qi → qi ≤ first + (get_or list i blank).size
    → find (holds qi) (stretches first from (drop i list)) ≡ Some (record { first = first; last = first + (get_or list i blank).size; from = from; to = (get_or list i blank).next })
unfolding stretches
stretch_found qi first from i list blank there below within =
    let left : leb first qi ≡ true = le-leb first qi below in
    let right : leb qi (first + (get_or list i blank).size) ≡ true = le-leb qi (first + (get_or list i blank).size) within in
    rw (drop-cons list i blank, left, right) refl

-- the ranges behind it, where it ends before the index
pub stretch_passed : (qi first from i : ℕ) (list : List Range) (blank : Range) → i < length list → first ≤ qi → first + (get_or list i blank).size < qi
    → find (holds qi) (stretches first from (drop i list)) ≡ find (holds qi) (stretches (first + (get_or list i blank).size) (get_or list i blank).next (drop (i + 1) list))
unfolding stretches
stretch_passed qi first from i list blank there below beyond =
    let left : leb first qi ≡ true = le-leb first qi below in
    let right : leb qi (first + (get_or list i blank).size) ≡ false = lt-leb qi (first + (get_or list i blank).size) beyond in
    rw (add-one, drop-cons list i blank, left, right) refl

-- the base matrix at the end of a range
pub next_named : (n i : ℕ) (ranges : Ranges) (list : List Range) (blank : Range) → list ≡ ranges.list → i < length list → NameMatrices n ranges → (get_or list i blank).next < n
next_named n i ranges list blank same there named = let inside = rw same at there in rw same (named.next i blank inside)
