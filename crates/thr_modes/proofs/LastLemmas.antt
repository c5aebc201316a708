-- The last coded block, found from the first on. `last_coded` cites these.
use Rattle.std.proofs.Common.{◌≡◌, ℕ, suc, ◌+◌, ◌<◌, ◌≤◌, Bool, true, false, List, length, drop, get_or, refl, arith}
use Rattle.std.proofs.lemmas.List.{drop_all}
use Rattle.std.proofs.Math.Seq.{drop-cons}
use Rattle.thr_modes.specs.Vectors.{Offset}
use Rattle.thr_modes.specs.Motion.{last_coded}

-- one block more: a coded one
pub last_taken : (luma : List Bool) (vectors : List Offset) (b : ℕ) (v last : Offset) → b < length luma → b < length vectors → get_or luma b false ≡ true → get_or vectors b last ≡ v
    → last_coded (drop (b + 1) luma) (drop (b + 1) vectors) v ≡ last_coded (drop b luma) (drop b vectors) last
unfolding last_coded
last_taken luma vectors b v last h k coded is =
    let next : b + 1 ≡ suc b = omega arith in
    rw (next, drop-cons luma b false h, drop-cons vectors b last k, coded, is) refl

-- an uncoded one
pub last_kept : (luma : List Bool) (vectors : List Offset) (b : ℕ) (last : Offset) → b < length luma → b < length vectors → get_or luma b false ≡ false
    → last_coded (drop (b + 1) luma) (drop (b + 1) vectors) last ≡ last_coded (drop b luma) (drop b vectors) last
unfolding last_coded
last_kept luma vectors b last h k uncoded =
    let next : b + 1 ≡ suc b = omega arith in
    rw (next, drop-cons luma b false h, drop-cons vectors b last k, uncoded) refl

-- none more
pub last_done : (luma : List Bool) (vectors : List Offset) (b : ℕ) (last : Offset) → length luma ≤ b → last_coded (drop b luma) (drop b vectors) last ≡ last
unfolding last_coded
last_done luma vectors b last h = rw (drop_all b luma h) refl
