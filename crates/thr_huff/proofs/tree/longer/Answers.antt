use Rattle.std.proofs.Common.{◌≡◌, Bool, true, false, refl}
use mir.Val.{bool_byte}
use Rattle.vid_base.specs.Bits.{digit}
use Rattle.thr_huff.proofs.CodeLemmas.{digits-front, shifted_bit}
use Rattle.thr_huff.proofs.tree.longer.Goals as goal

bool_digit : (bit : Bool) → bool_byte bit ≡ digit bit
bool_digit true = refl
bool_digit false = refl

pub returns : goal.returns
returns c = rw (c.from.ensures, bool_digit c.args.bit, shifted_bit c.args.bit c.args.code.len c.requires) (digits-front c.args.bit c.args.code.len c.args.code.bits c.args.code.small)
