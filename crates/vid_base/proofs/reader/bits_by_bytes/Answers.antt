use Rattle.std.proofs.Common.{arith, refl}
use Rattle.vid_base.proofs.PlaceLemmas.{sub_self, digits_none, pieces_start}
use Rattle.vid_base.specs.Places.{left_at}
use Rattle.vid_base.proofs.reader.bits_by_bytes.Goals as goal

pub pieces-init : goal.pieces-init
pieces-init c = record {
  left = omega arith;
  shift = c.requires.shift;
  place = refl;
  small = pieces_start c.args.n;
  bits = rw (sub_self c.args.n) (digits_none (left_at c.args.bytes.now c.args.at c.args.shift));
}
