use Rattle.std.proofs.Common.{[], refl, arith}
use Rattle.cut_desk.proofs.MakingLemmas.{adds_none, adds_part}
use Rattle.cut_slice.proofs.copy.add_page.Goals as goal

pub returns-then-is_err-clause-part : goal.returns-then-is_err-clause-part
returns-then-is_err-clause-part g c = ([], adds_none (g.D.Desk.sees c.args.desk.now) (g.D.Desk.sees c.args.desk.now) c.args.id refl (omega arith))

pub returns-in-Err-clause-part : goal.returns-in-Err-clause-part
returns-in-Err-clause-part g c = adds_part (g.D.Desk.sees c.args.desk.now) (g.D.Desk.sees c.append.new.self) c.args.id c.deref.result.now c.in-Err.fault c.in-Err.ensures.appended c.append.ensures.cause.later
