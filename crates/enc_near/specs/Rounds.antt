-- (private) Quotients to the nearest whole number (own): f is the dividend, q the divisor, c the quotient.
use Rattle.std.specs.Prelude.{ℕ, ℤ, pos, ◌+ℤ◌, ◌*ℤ◌, ◌≤ℤ◌}

-- f is at most half of q above or below c times q
pub record Rounds (f : ℤ) (q : ℕ) (c : ℤ) : Type 0 where
  pub low : (pos 2 *ℤ (c *ℤ pos q)) ≤ℤ (pos 2 *ℤ f +ℤ pos q)
  pub high : (pos 2 *ℤ f) ≤ℤ (pos 2 *ℤ (c *ℤ pos q) +ℤ pos q)
