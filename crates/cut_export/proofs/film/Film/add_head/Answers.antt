use Rattle.std.proofs.Common.{[]}
use Rattle.cut_desk.proofs.GrowingLemmas.{grows_none}
use Rattle.cut_export.proofs.film.Film.add_head.Goals as goal

pub returns-then-is_err-clause-part : goal.returns-then-is_err-clause-part
returns-then-is_err-clause-part g c = ([], grows_none (g.D.Desk.sees c.args.desk.now) c.args.id)
