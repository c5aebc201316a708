use Rattle.std.proofs.Common.{arith}
use Rattle.thr_huff.specs.CodeTree.{code_tree}
use Rattle.thr_huff.specs.Codes.{codes_of}
use Rattle.thr_huff.proofs.ForestLemmas.{each_tree, small_token}
use Rattle.thr_huff.proofs.forest.Forest.token.Goals as goal

pub returns-clause-small : goal.returns-clause-small
returns-clause-small c =
    small_token c.token.result (codes_of (code_tree c.index-book.result.now.tree)) c.args.r.now.left c.token.new.r.left
    (each_tree (λ b. code_tree b.tree) c.self.inside.books.items c.from.result c.index-book.result.now c.index-book.ensures (omega (arith, c.from.ensures)) c.self.invariant).tokens c.token.ensures.value
