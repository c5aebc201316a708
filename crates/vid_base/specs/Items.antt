-- Equal fields one behind the other (Theora I, 5.2).
use Rattle.std.specs.Prelude.{ℕ, zero, suc, Bool, List, [], ◌∷◌, ◌++◌, Result, Ok}
use Rattle.vid_base.specs.Reading.{◌>>=◌}
use Rattle.vid_base.specs.Bits.{digits}

-- n items, each read as `item` says
unfoldable pub items : {A F : Type 0} → (List Bool → Result (A × List Bool) F) → ℕ → List Bool → Result (List A × List Bool) F
items item zero bits = Ok ([], bits)
items item (suc n) bits = item bits >>= (λ first. items item n first.1 >>= (λ others. Ok (first.0 ∷ others.0, others.1)))

-- items read before stand in front of those that are still read
abbrev pub with_front : {A F : Type 0} → List A → Result (List A × List Bool) F → Result (List A × List Bool) F
with_front front read = read >>= (λ rest. Ok (front ++ rest.0, rest.1))

-- the digits of numbers of n bits each, one behind the other
unfoldable pub all_digits : ℕ → List ℕ → List Bool
all_digits n [] = []
all_digits n (v ∷ numbers) = digits n v ++ all_digits n numbers
