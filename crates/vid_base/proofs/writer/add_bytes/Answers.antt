use Rattle.std.proofs.Common.{arith}
use Rattle.vid_base.proofs.WriterLemmas.{byte_step}
use Rattle.vid_base.proofs.writer.add_bytes.Goals as goal

pub loop-left-preserved : goal.loop-left-preserved
loop-left-preserved c = record {
  written = byte_step c.loop-left.bytes.items c.add_byte.new.bytes.items c.args.bits c.loop-left.left _ c.loop-left-test.true c.add_byte.ensures.items c.loop-left.invariant.written;
  bound = omega arith;
  room = omega arith;
}
