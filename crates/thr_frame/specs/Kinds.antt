-- One value put in some places of a list (own).
use Rattle.std.specs.Prelude.{ℕ, List, [], ◌∷◌, slice_set}

-- the value stands in each place that is named
unfoldable pub put_same : ℕ → List ℕ → List ℕ → List ℕ
put_same value [] xs = xs
put_same value (place ∷ places) xs = put_same value places (slice_set xs place value)
