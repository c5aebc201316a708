use Rattle.thr_setup.specs.Setup.{contents}
use Rattle.enc_packet.proofs.PacketLemmas.{residue_back}
use Rattle.enc_packet.proofs.residue.write_residue.Goals as goal

pub returns-clause-reads_back : goal.returns-clause-reads_back
returns-clause-reads_back c =
    let told = c.in_ok-tokens.ensures.tells in (
      told.0,
      residue_back (contents c.args.setup.now) c.args.geom.now c.args.flags.now c.args.coeffs.now.values.items told.0 _ _ c.requires.flags
          (c.in_ok-write_tokens.ensures.reads_back c.args.geom.now c.args.flags.now (c.args.coeffs.now.values.items, told.0) (rw c.deref-2.ensures.value told.1)),
    )
