use Rattle.std.proofs.Common.{false, ap, get_or}
use Rattle.vid_geom.specs.CodedOrder.{block_of}
use Rattle.thr_loop.specs.Filtered.{is_coded}
use Rattle.thr_loop.proofs.frame.Blocks.is_coded.Goals as goal

pub returns : goal.returns
unfolding is_coded block_of
returns c = ap (λ k. get_or c.args.self.now.flags.now k false) c.place.ensures.value
