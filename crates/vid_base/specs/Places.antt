-- What is left of a packet behind a bit of one of its bytes (own).
use Rattle.std.specs.Prelude.{ℕ, Bool, List, drop}
use Rattle.vid_base.specs.Bits.{bits_of}

unfoldable pub left_at : List ℕ → ℕ → ℕ → List Bool
left_at bytes at shift = drop shift (bits_of (drop at bytes))
