-- What the steps of a reading gave, from what came out of it. The lemmas on values and on heads cite these.
use Rattle.std.proofs.Common.{◌≡◌, Result, Ok, Err, refl}
use Rattle.vid_base.specs.Reading.{◌>>=◌}

-- what a reading that goes on was given, and what then came out
pub record Both {A B F : Type 0} (read : Result A F) (next : A → Result B F) (out : B) : Type 0 where
  pub value : A
  pub was : read ≡ Ok value
  pub then : next value ≡ Ok out

pub both : {A B F : Type 0} (read : Result A F) (next : A → Result B F) (out : B) → (read >>= next) ≡ Ok out → Both read next out
both (Ok a) next out e = record { value = a; was = refl; then = e }
both (Err fault) next out e = cc

pub ok_same : {A F : Type 0} (a b : A) → ◌≡◌ {A = Result A F} (Ok a) (Ok b) → a ≡ b
ok_same a b e = cc
