use Rattle.std.proofs.Common.{◌∙◌, sym}
use Rattle.thr_modes.proofs.FewBits.{modes_few}
use Rattle.thr_modes.proofs.LumaLemmas.{flags_long}
use Rattle.thr_modes.proofs.WrittenModes.{modes_read_back}
use Rattle.thr_modes.proofs.modes.write_modes.Goals as goal

pub returns-clause-reads_back : goal.returns-clause-reads_back
returns-clause-reads_back c zero_where_uncoded =
    modes_read_back c.args.geom.now c.args.flags.now c.args.modes.now c.args.w.now c.put.new.self c.write_macro_modes.new.w (c.requires.modes ∙ sym (flags_long c.args.geom.now c.args.flags.now)) c.requires.small zero_where_uncoded c.in_ok-put.ensures.written c.in_ok-write_macro_modes.ensures.written

pub returns-clause-few : goal.returns-clause-few
returns-clause-few c = modes_few c.args.geom.now c.args.flags.now c.args.modes.now c.args.w.now c.put.new.self c.write_macro_modes.new.w c.in_ok-put.ensures.written c.in_ok-write_macro_modes.ensures.written
