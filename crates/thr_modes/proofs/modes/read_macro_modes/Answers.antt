use Rattle.std.proofs.Common.{◌∙◌, take, sym}
use Rattle.std.proofs.lemmas.Result.{err_from_is_err_and}
use Rattle.thr_modes.specs.LumaFlags.{macro_flags}
use Rattle.thr_modes.specs.Modes.{macro_mode}
use Rattle.thr_modes.proofs.EachLemmas.{each_fault}
use Rattle.thr_modes.specs.Views.{mode_form}
use Rattle.thr_modes.proofs.modes.read_macro_modes.Goals as goal

pub returns-in_err-modes-clause-value : goal.returns-in_err-modes-clause-value
returns-in_err-modes-clause-value c =
    let p = err_from_is_err_and c.from_residual.result c.from_residual.ensures.1 in
    rw (p.1, p.2)
    (sym c.macro_blocks.invariant.read ∙ each_fault (macro_mode (mode_form c.args.coding.now)) (macro_flags c.args.geom.now c.args.flags.now) (take c.macro_blocks.m c.macro_blocks.modes) c.macro_blocks.m c.luma_flags.result c.in_err-modes.field-0.0 c.macro_blocks.r.left c.luma_flags.ensures c.in_err-modes.ensures.value)
