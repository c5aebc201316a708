use Rattle.cut_desk.proofs.GrowingLemmas.{grows_part}
use Rattle.cut_export.proofs.film.add.Goals as goal

pub returns-in-Err-clause-part : goal.returns-in-Err-clause-part
returns-in-Err-clause-part g c = grows_part (g.D.Desk.sees c.args.desk.now) (g.D.Desk.sees c.append.new.self) c.args.id c.args.piece.now c.in-Err.fault c.in-Err.ensures.appended c.append.ensures.cause.later
