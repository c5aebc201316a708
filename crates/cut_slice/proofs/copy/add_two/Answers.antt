use Rattle.std.proofs.Common.{[], refl, arith, rules}
use Rattle.cut_slice.proofs.CopyLemmas.{two_shape_of}
use Rattle.cut_desk.proofs.MakingLemmas.{adds_none}
use Rattle.cut_slice.proofs.copy.add_two.Goals as goal

pub returns-then-is_err-clause-part : goal.returns-then-is_err-clause-part
returns-then-is_err-clause-part g c = ([], adds_none (g.D.Desk.sees c.args.desk.now) (g.D.Desk.sees c.args.desk.now) c.args.id refl (omega arith))

pub returns-then-is_err-3-clause-part : goal.returns-then-is_err-3-clause-part
returns-then-is_err-3-clause-part g c = ([], adds_none (g.D.Desk.sees c.args.desk.now) (g.D.Desk.sees c.args.desk.now) c.args.id refl (omega arith))

pub add_page-requires-clause-shape : goal.add_page-requires-clause-shape
add_page-requires-clause-shape g c = two_shape_of c.args.comment.now c.args.setup.now c.deref.result.now c.deref-2.result.now c.requires.short (search rules) (search rules)
