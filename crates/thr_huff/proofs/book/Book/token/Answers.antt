use Rattle.std.proofs.Common.{arith}
use Rattle.thr_huff.specs.CodeTree.{code_tree}
use Rattle.thr_huff.proofs.TableLemmas.{by_entry, enough, short_entry}
use Rattle.thr_huff.proofs.book.Book.token.Goals as goal

pub take-requires : goal.take-requires
take-requires c = omega (arith, c.from.ensures, short_entry (code_tree c.args.self.now.tree) c.args.r.now.left c.in-Some.window c.in-Some-entry_at.entry c.in-Some-entry_at.ensures c.in-Some.ensures.value)

pub returns-in_err-take-clause-value : goal.returns-in_err-take-clause-value
returns-in_err-take-clause-value c =
    absurd (enough (code_tree c.args.self.now.tree) c.args.r.now.left c.in-Some.window c.in-Some-entry_at.entry c.in-Some-entry_at.ensures c.in-Some.ensures.value (rw c.from.ensures at c.in_err-take.ensures.value))

pub returns-in_err-take-clause-ended : goal.returns-in_err-take-clause-ended
returns-in_err-take-clause-ended c =
    absurd (enough (code_tree c.args.self.now.tree) c.args.r.now.left c.in-Some.window c.in-Some-entry_at.entry c.in-Some-entry_at.ensures c.in-Some.ensures.value (rw c.from.ensures at c.in_err-take.ensures.value))

pub returns-in-Some-entry_at-clause-value : goal.returns-in-Some-entry_at-clause-value
returns-in-Some-entry_at-clause-value c =
    by_entry (code_tree c.args.self.now.tree) c.args.r.now.left c.take.new.self.left c.in-Some.window c.in_ok-take.field-0 c.in-Some-entry_at.entry c.in-Some-entry_at.ensures c.in-Some.ensures.value (rw c.from.ensures at c.in_ok-take.ensures.value)
