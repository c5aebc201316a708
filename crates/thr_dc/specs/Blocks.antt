-- The blocks of a plane as DC prediction sees them (Theora I, 7.8).
use Rattle.std.specs.Prelude.{ℕ, ◌≤◌, ℤ, unsigned_abs, Option, IfSome}

-- what a coded block gives to the prediction of others: what it is predicted from (0 nothing, 1 the previous frame, 2 the golden
-- frame), and its DC value
pub record Coded : Type 0 where
  pub kind : ℕ
  pub value : ℤ

-- the value of a coded block is at most n large
abbrev pub IsSmall : ℕ → Option Coded → Type 0
IsSmall n block = IfSome block (λ coded. unsigned_abs coded.value ≤ n)
