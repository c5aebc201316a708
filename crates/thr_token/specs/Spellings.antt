-- Which meanings a token has (Theora I, 7.7.1 and 7.7.2).
use Rattle.std.specs.Prelude.{ℕ, ◌<◌, ◌≤◌, ◌==◌, ◌&&◌, ◌||◌, nat_lt, Bool, IsTrue, unsigned_abs}
use Rattle.thr_token.specs.Tokens.{Meaning, EndRun, ZeroRun, Value}

-- whether one token can say so many zeros and a value of this size behind them
abbrev pub in_one : ℕ → ℕ → Bool
in_one zeros size = zeros == 0 || (size == 1 && nat_lt zeros 18) || (nat_lt size 4 && nat_lt zeros 4)

-- one token can say it
abbrev pub IsSayable : Meaning → Type 0
IsSayable (EndRun blocks) = (0 < blocks) × (blocks ≤ 4095)
IsSayable (ZeroRun zeros) = (0 < zeros) × (zeros ≤ 64)
IsSayable (Value zeros value) = (0 < unsigned_abs value) × (unsigned_abs value ≤ 580) × IsTrue (in_one zeros (unsigned_abs value))
