-- Where a byte first stands in a text (own).
use Rattle.std.specs.Prelude.{◌≡◌, ◌≢◌, ◌<◌, ℕ, List, length, slice_index}

-- a byte stands at this place, and not before
pub record IsFirstPlace (wanted : ℕ) (bytes : List ℕ) (i : ℕ) : Type 0 where
  pub inside : i < length bytes
  pub here : slice_index bytes i ≡ wanted
  pub before : (k : ℕ) → k < i → slice_index bytes k ≢ wanted
