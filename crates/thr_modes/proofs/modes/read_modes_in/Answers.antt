use Rattle.thr_modes.specs.LumaFlags.{macro_flags}
use Rattle.thr_modes.proofs.SmallModes.{read_are}
use Rattle.thr_modes.specs.Views.{mode_form}
use Rattle.thr_modes.proofs.modes.read_modes_in.Goals as goal

pub returns-clause-small : goal.returns-clause-small
returns-clause-small c =
    (read_are c.in_ok-scheme.scheme (mode_form c.in_ok-coding.coding) (macro_flags c.args.geom.now c.args.flags.now) c.read_macro_modes.new.modes c.take.new.self.left c.read_coding.new.r.left c.read_macro_modes.new.r.left c.in_ok-coding.ensures.value c.in_ok-read_macro_modes.ensures.value).small

pub returns-clause-uncoded : goal.returns-clause-uncoded
returns-clause-uncoded c =
    (read_are c.in_ok-scheme.scheme (mode_form c.in_ok-coding.coding) (macro_flags c.args.geom.now c.args.flags.now) c.read_macro_modes.new.modes c.take.new.self.left c.read_coding.new.r.left c.read_macro_modes.new.r.left c.in_ok-coding.ensures.value c.in_ok-read_macro_modes.ensures.value).zero_where_uncoded
