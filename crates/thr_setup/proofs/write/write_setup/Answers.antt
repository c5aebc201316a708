use Rattle.std.proofs.Common.{◌≡◌, ◌++◌, ap, ◌∙◌}
use Rattle.vid_base.specs.Bits.{bits_of}
use Rattle.thr_setup.specs.Setup.{contents, setup_name}
use Rattle.thr_setup.proofs.PacketLemmas.{packet-appended}
use Rattle.thr_setup.proofs.write.write_setup.Goals as goal

pub returns-clause-written : goal.returns-clause-written
returns-clause-written c =
    let named : c.add.new.out.items ≡ c.args.out.now.items ++ setup_name = c.add.ensures.items ∙ ap (λ items. items ++ setup_name) c.in_ok-try_reserve.ensures.items in
    packet-appended (contents c.args.setup.now) c.args.out.now.items c.add.new.out.items c.add-2.new.out.items c.deref.result.now named c.add-2.ensures.items c.add-2.ensures.packed (ap bits_of c.deref.ensures.value ∙ c.in_ok-fields.ensures.written)
