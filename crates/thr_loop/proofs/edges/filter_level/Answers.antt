use Rattle.std.proofs.Common.{◌∙◌, ap, arith}
use Rattle.thr_loop.proofs.EdgeLemmas.{level_is, unsealed-with_row}
use Rattle.thr_loop.proofs.edges.filter_level.Goals as goal

pub returns-clause-value : goal.returns-clause-value
returns-clause-value c =
    level_is c.args.limit c.args.plane.now c.put_row8.new.self c.put_row8-2.new.self c.args.x c.args.y c.level_lines.result c.filtered-sides.result
    c.requires.sized c.requires.columns c.requires.below c.requires.above c.level_lines.ensures c.filtered-sides.ensures c.put_row8.ensures.paints c.put_row8-2.ensures.paints
    (ap (λ p. p.sealed) c.put_row8-2.ensures.value ∙ unsealed-with_row c.put_row8.new.self c.args.x c.args.y c.filtered-sides.result.behind (let whole = c.filtered-sides.ensures.whole in omega arith))
