-- Entries of quantiser matrices: how they come about, and their bounds. `matrix` cites these.
use Rattle.std.proofs.Common.{◌≡◌, ℕ, ◌<◌, ◌≤◌, Bool, true, false, List, [], length, get_or, All, refl, ap, arith, nat_eq, cond, slice_index_or, slice_index}
use Rattle.std.proofs.lemmas.List.{get_or_read}
use Rattle.std.proofs.lemmas.List.FromFn.{get_or-map-range_with_len, length-map-range_with_len}
use Rattle.thr_quant.specs.Ramps.{Ramps}
use Rattle.thr_quant.specs.Matrix.{Stretch, between, base_at, scale_at, scaled, least, entry_on, matrix_on}

-- a base matrix that was read by its index
pub matrix_read : (list matrices : List (List ℕ)) (i j : ℕ) (x : List ℕ) → list ≡ matrices → i ≡ j → j < length matrices → x ≡ get_or list i x → x ≡ slice_index_or matrices j []
matrix_read list matrices i j x same index named read = let read_there = rw (same, index) at read in get_or_read matrices j x named read_there []

-- an entry from the base matrices at the ends of its range
pub entry_is : (ramps : Ramps) (qti qi k v : ℕ) (stretch : Stretch) (from to : List ℕ)
    → from ≡ slice_index_or ramps.matrices stretch.from [] → to ≡ slice_index_or ramps.matrices stretch.to []
    → v ≡ scaled (scale_at ramps qi k) (between stretch qi (get_or from k 0) (get_or to k 0)) (least qti k) → v ≡ entry_on ramps qti qi stretch k
unfolding entry_on base_at
entry_is ramps qti qi k v stretch from to e f g = rw (← e, ← f) g

-- the least entry
pub least-bounds : (qti k : ℕ) → (8 ≤ least qti k) × (least qti k ≤ 32)
least-bounds qti k = go (nat_eq qti 0) (nat_eq k 0)
  where
    go : (a b : Bool) → (8 ≤ cond a (cond b 16 8) (cond b 32 16)) × (cond a (cond b 16 8) (cond b 32 16) ≤ 32)
    go true true = (omega arith, omega arith)
    go true false = (omega arith, omega arith)
    go false true = (omega arith, omega arith)
    go false false = (omega arith, omega arith)

-- the least entry at the first place
least-first : (qti : ℕ) → 16 ≤ least qti 0
least-first qti = go (nat_eq qti 0)
  where
    go : (a : Bool) → 16 ≤ cond a 16 32
    go true = omega arith
    go false = omega arith

-- an entry is from 8 to 4,096
pub entry-bounds : (ramps : Ramps) (qti qi k : ℕ) (stretch : Stretch) → (8 ≤ entry_on ramps qti qi stretch k) × (entry_on ramps qti qi stretch k ≤ 4096)
unfolding entry_on scaled
entry-bounds ramps qti qi k stretch = (omega (arith, (least-bounds qti k).0), omega (arith, (least-bounds qti k).1))

-- the first is 16 at least
pub entry-first : (ramps : Ramps) (qti qi : ℕ) (stretch : Stretch) → 16 ≤ entry_on ramps qti qi stretch 0
unfolding entry_on scaled
entry-first ramps qti qi stretch = omega (arith, least-first qti)

-- so are all entries of a matrix
pub matrix-entries : (ramps : Ramps) (qti qi : ℕ) (stretch : Stretch) (matrix : List ℕ) → matrix ≡ matrix_on ramps qti qi stretch → All (λ v. (8 ≤ v) × (v ≤ 4096)) matrix
unfolding matrix_on
matrix-entries ramps qti qi stretch matrix e = λ k d h.
    let inside : k < 64 = omega (arith, ap length e, length-map-range_with_len (entry_on ramps qti qi stretch) 0 64) in
    rw (e, get_or-map-range_with_len (entry_on ramps qti qi stretch) 0 64 k k d inside (omega arith)) (entry-bounds ramps qti qi k stretch)

-- and its first
pub matrix-first : (ramps : Ramps) (qti qi : ℕ) (stretch : Stretch) (matrix : List ℕ) → matrix ≡ matrix_on ramps qti qi stretch → 16 ≤ slice_index matrix 0
unfolding matrix_on
matrix-first ramps qti qi stretch matrix e =
    rw (e, get_or-map-range_with_len (entry_on ramps qti qi stretch) 0 64 0 0 0 (omega arith) refl) (entry-first ramps qti qi stretch)
