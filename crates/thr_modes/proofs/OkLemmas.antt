-- What holds of a value that was read, by the steps of its reading. The lemmas on motions and on modes cite these.
use Rattle.std.proofs.Common.{◌≡◌, ℕ, suc, Bool, List, ◌∷◌, length, Result, Ok, Err, IfOk, arith}
use Rattle.vid_base.specs.Reading.{◌>>=◌}

-- what holds of any value holds of the one that was read
pub any_ok : {A F : Type 0} (P : A → Type 0) (read : Result A F) → ((a : A) → P a) → IfOk read P
any_ok P (Ok a) h = h a
any_ok P (Err fault) h = tt

-- what goes on after any value holds of what comes out
pub after_any : {A B F : Type 0} (P : B → Type 0) (read : Result A F) (next : A → Result B F) → ((a : A) → IfOk (next a) P) → IfOk (read >>= next) P
after_any P (Ok a) next h = h a
after_any P (Err fault) next h = tt

-- the same after a value of which something holds
pub after_ok : {A B F : Type 0} (P : A → Type 0) (Q : B → Type 0) (read : Result A F) (next : A → Result B F) → IfOk read P → ((a : A) → P a → IfOk (next a) Q) → IfOk (read >>= next) Q
after_ok P Q (Ok a) next p h = h a p
after_ok P Q (Err fault) next p h = tt

-- a list of so many was read
abbrev pub Long : {A : Type 0} → ℕ → List A × List Bool → Type 0
Long n read = length read.0 ≡ n

pub more_long : {A F : Type 0} (n : ℕ) (first : A) (read : Result (List A × List Bool) F) → IfOk read (Long n) → IfOk (read >>= (λ others. Ok (first ∷ others.0, others.1))) (Long (suc n))
more_long n first (Ok y) h = omega arith
more_long n first (Err fault) h = tt
