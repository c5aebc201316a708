-- One item for each element of a list, read one behind the other (Theora I, 7.4 and 7.5).
use Rattle.std.specs.Prelude.{◌≡◌, Bool, List, [], ◌∷◌, Result, Ok}
use Rattle.vid_base.specs.Reading.{◌>>=◌}

-- an item for each element, read as `item` says of the element
unfoldable pub each : {X A F : Type 0} → (X → List Bool → Result (A × List Bool) F) → List X → List Bool → Result (List A × List Bool) F
each item [] bits = Ok ([], bits)
each item (x ∷ xs) bits = item x bits >>= (λ first. each item xs first.1 >>= (λ others. Ok (first.0 ∷ others.0, others.1)))

-- some bits are read as the value
abbrev pub CanBeRead : {Y F : Type 0} → (List Bool → Result (Y × List Bool) F) → Y → Type 0
CanBeRead read value = (bits : List Bool) × (rest : List Bool) × (read bits ≡ Ok (value, rest))
