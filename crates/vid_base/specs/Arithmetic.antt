-- Whole-number arithmetic (Theora I, Notation and Conventions).
use Rattle.std.specs.Prelude.{ℕ, ℤ, pos, ◌+◌, ◌-◌, ◌*◌, ◌/◌, ◌-ℤ◌, if◌then◌else◌}
use Rattle.std.specs.Int.{leading_zeros, w32, is_negative}
use Rattle.std.specs.Int.RustNames.{unsigned_abs}

-- how many binary digits a number of 32 bits has when its leading zeros go
abbrev pub bit_length : ℕ → ℕ
bit_length v = 32 - leading_zeros w32 v

-- the nearest whole number to sum / n, halves away from zero: the size of the sum is rounded upwards, and its sign stays
abbrev pub rounded : ℤ → ℤ → ℤ
rounded sum n =
    let size = (2 * unsigned_abs sum + unsigned_abs n) / (2 * unsigned_abs n) in
    if is_negative sum then pos 0 -ℤ pos size else pos size
