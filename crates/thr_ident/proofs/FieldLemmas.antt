-- A field at its place, and the fields in front of it that a reader has taken. Reading and writing a header cite these.
use Rattle.std.proofs.Common.{◌≡◌, ℕ, ◌+◌, ◌≤◌, Bool, true, false, List, length, take, drop, Option, Some, None, Result, Ok, Err, IsOk, nat_lt, refl, ap, sym, ◌∙◌, arith, cond, rules}
use Rattle.std.proofs.lemmas.List.{drop-drop}
use Rattle.vid_base.specs.Bits.{take_bits, bits_of, number}
use Rattle.thr_ident.specs.Header.{field_at}
use Rattle.vid_base.specs.Reading.{Taken}
use Rattle.vid_base.proofs.NumberLemmas.{taken-none}

value_in : Option (ℕ × List Bool) → ℕ
value_in None = 0
value_in (Some taken) = taken.0

-- the number that was taken is that of the first bits
pub taken-number : (n v : ℕ) (bits rest : List Bool) → take_bits n bits ≡ Some (v, rest) → v ≡ number (take n bits)
unfolding take_bits number value_in
taken-number n v bits rest e = go (nat_lt (length bits) n) refl e
  where
    go : (t : Bool) → nat_lt (length bits) n ≡ t → ◌≡◌ {A = Option (ℕ × List Bool)} (cond t None (Some (number (take n bits), drop n bits))) (Some (v, rest)) → v ≡ number (take n bits)
    go true h e = cc
    go false h e = sym (ap value_in e)

-- bits that are there are taken
pub taken_there : {E : Type 0} (r : Result ℕ E) (n : ℕ) (bits left : List Bool) → n ≤ length bits → Taken r left (take_bits n bits) → IsOk r
taken_there (Ok v) n bits left h t = search rules
taken_there (Err e) n bits left h t = absurd (omega (arith, taken-none n bits t))

-- behind a field that stands behind k bits
pub behind_more : (k n j : ℕ) (bits left next : List Bool) → k + n ≡ j → left ≡ drop k bits → next ≡ drop n left → next ≡ drop j bits
behind_more k n j bits left next e f g = g ∙ ap (drop n) f ∙ drop-drop n k bits ∙ ap (λ i. drop i bits) e

-- the field that stands there
pub field-behind : (k n v : ℕ) (bytes : List ℕ) (left : List Bool) → left ≡ drop k (bits_of bytes) → v ≡ number (take n left) → v ≡ field_at k n bytes
unfolding field_at
field-behind k n v bytes left f g = g ∙ ap (λ bits. number (take n bits)) f
