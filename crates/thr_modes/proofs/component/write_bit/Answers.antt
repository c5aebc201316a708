use Rattle.std.proofs.Common.{rules, ◌≡◌, Bool, true, false, [], ◌∷◌, refl}
use Rattle.std.specs.Int.{from_bool}
use Rattle.vid_base.specs.Bits.{digits}
use Rattle.thr_modes.proofs.component.write_bit.Goals as goal

-- a bit is the digit of its number
bit_digits : (b : Bool) → digits 1 (from_bool b) ≡ b ∷ []
unfolding digits
bit_digits true = refl
bit_digits false = refl

pub returns-clause-written : goal.returns-clause-written
returns-clause-written c = search (rules, bit_digits c.args.bit)
