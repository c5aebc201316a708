use Rattle.std.proofs.Common.{arith, ap, ◌∙◌}
use Rattle.std.proofs.lemmas.List.Elements.{All-same}
use Rattle.thr_dct.specs.Line.{Within}
use Rattle.thr_dct.specs.Passes.{summed_rows}
use Rattle.thr_dct.proofs.ForwardLemmas.{twice, rows_within, all_within, coefficients_within}
use Rattle.thr_dct.proofs.passes.forward.Goals as goal

pub narrowed-requires : goal.narrowed-requires
narrowed-requires c =
    All-same (Within 134217728) c.pass-by_rows.result (summed_rows c.args.r.now) (c.pass-by_rows.ensures ∙ ap summed_rows c.widened.ensures)
    (rows_within 134217728 c.args.r.now c.told-r (omega arith) c.requires)

pub pass-by_columns-requires : goal.pass-by_columns-requires
pass-by_columns-requires c =
    All-same (Within 134217728) c.narrowed.result (summed_rows c.args.r.now) (c.narrowed.ensures ∙ c.pass-by_rows.ensures ∙ ap summed_rows c.widened.ensures)
    (rows_within 134217728 c.args.r.now c.told-r (omega arith) c.requires)

pub coefficients-requires : goal.coefficients-requires
coefficients-requires c =
    All-same (Within 70368744177664) c.pass-by_columns.result (summed_rows (summed_rows c.args.r.now))
    (c.pass-by_columns.ensures ∙ ap summed_rows (c.narrowed.ensures ∙ c.pass-by_rows.ensures ∙ ap summed_rows c.widened.ensures))
    (all_within 70368744177664 c.args.r.now c.told-r (omega arith) c.requires)

pub returns-clause-value : goal.returns-clause-value
returns-clause-value c =
    rw (c.coefficients.ensures, c.pass-by_columns.ensures, c.narrowed.ensures, c.pass-by_rows.ensures, c.widened.ensures) (twice c.args.r.now)

pub returns-clause-bounds : goal.returns-clause-bounds
returns-clause-bounds c =
    rw (c.coefficients.ensures, c.pass-by_columns.ensures, c.narrowed.ensures, c.pass-by_rows.ensures, c.widened.ensures) (coefficients_within c.args.r.now c.told-r c.requires)
