use Rattle.cut_make.proofs.PartLemmas.{part_of}
use Rattle.cut_make.proofs.maker.Maker.append.Goals as goal

pub returns-in-Err-clause-part : goal.returns-in-Err-clause-part
returns-in-Err-clause-part g c = rw (← c.deref.ensures.value) (part_of (g.D.Desk.sees c.args.desk.now) (g.D.Desk.sees c.append.new.self) c.args.id c.deref.result.now c.in-Err.fault c.in-Err.ensures.appended c.append.ensures.cause.later)
