use Rattle.enc_packet.proofs.StillLemmas.{still_chosen}
use Rattle.enc_packet.proofs.tests.write_fitting.Goals as goal

pub write_packet-requires-clause-inter : goal.write_packet-requires-clause-inter
write_packet-requires-clause-inter c = λ inter. still_chosen c.args.geom.now c.args.flags.now c.args.head.now.modes.now _ (c.requires.inter inter) c.requires.still
