use Rattle.thr_setup.proofs.PacketLemmas.{packed}
use Rattle.thr_setup.proofs.write.add.Goals as goal

pub returns-clause-packed : goal.returns-clause-packed
returns-clause-packed c = packed c.args.bytes.now c.type_inv.bytes
