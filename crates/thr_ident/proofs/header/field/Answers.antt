use Rattle.std.proofs.Common.{sym, arith}
use Rattle.std.proofs.lemmas.List.{length-drop}
use Rattle.vid_base.proofs.NumberLemmas.{taken-some}
use Rattle.thr_ident.proofs.FieldLemmas.{taken-number, taken_there}
use Rattle.thr_ident.proofs.header.field.Goals as goal

pub unwrap-requires : goal.unwrap-requires
unwrap-requires c = taken_there c.take.result c.args.n c.args.r.now.left c.take.new.self.left c.requires.there c.take.ensures.value

pub returns-clause-value : goal.returns-clause-value
returns-clause-value c = taken-number c.args.n _ _ _ (rw c.unwrap.ensures at c.take.ensures.value)

pub returns-clause-left : goal.returns-clause-left
returns-clause-left c = let taken = taken-some c.args.n _ _ _ (rw c.unwrap.ensures at c.take.ensures.value) in sym taken.1

pub returns-clause-count : goal.returns-clause-count
returns-clause-count c =
    let taken = taken-some c.args.n _ _ _ (rw c.unwrap.ensures at c.take.ensures.value) in
    rw (← taken.1) (omega (arith, length-drop c.args.n c.args.r.now.left))
