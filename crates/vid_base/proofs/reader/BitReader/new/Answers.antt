use Rattle.std.proofs.Common.{refl, arith, ◌∙◌}
use Rattle.vid_base.specs.Places.{left_at}
use Rattle.vid_base.proofs.PlaceLemmas.{length-left_at}
use Rattle.vid_base.proofs.reader.BitReader.new.Goals as goal

pub returns-clause-left : goal.returns-clause-left
unfolding left_at
returns-clause-left c = refl

pub returns-clause-count : goal.returns-clause-count
returns-clause-count c = length-left_at c.args.bytes.now 0 0 ∙ omega arith
