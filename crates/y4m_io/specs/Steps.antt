-- Reading step by step (own).
use Rattle.std.specs.Prelude.{Result, Ok, Err}
use Rattle.y4m_io.specs.declared.fault.Y4mWhy.{Y4mWhy}

-- reading goes on with what was read, and stops at the first why
infixl 10 ◌>>=◌
abbrev pub ◌>>=◌ : {A B : Type 0} → Result A Y4mWhy → (A → Result B Y4mWhy) → Result B Y4mWhy
(Ok a) >>= next = next a
(Err why) >>= next = Err why
