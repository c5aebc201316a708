use Rattle.std.proofs.Common.{ap, arith, ◌∙◌, length}
use Rattle.std.proofs.lemmas.List.{length-map}
use Rattle.thr_huff.specs.CodeTree.{code_tree}
use Rattle.thr_huff.proofs.ForestLemmas.{each_tree, forest_bits-nil, forest_bits-more, forest_at-forest_bits}
use Rattle.thr_huff.proofs.forest.write_forest.Goals as goal

pub trees-init : goal.trees-init
trees-init c = forest_bits-nil c.args.w.now

pub write_tree-requires : goal.write_tree-requires
write_tree-requires c =
    (each_tree (λ b. code_tree b.tree) c.deref-book-items.result.now c.trees.book-index c.book-item.result c.book-item.is
    (omega (arith, c.forest.invariant.count, length-map c.forest.inside.books.items (λ b. code_tree b.tree), ap length c.deref-book-items.ensures.value)) (rw (← c.deref-book-items.ensures.value) at c.forest.invariant)).tokens

pub trees-preserved : goal.trees-preserved
trees-preserved c =
    c.in_ok-write_tree.ensures.written
    ∙ forest_bits-more (λ b. code_tree b.tree) c.trees.w c.args.w.now c.deref-book-items.result.now c.trees.book-index c.book-item.result c.book-item.is (omega arith) c.trees.invariant

pub returns-in_err-write_tree-clause-reads_back : goal.returns-in_err-write_tree-clause-reads_back
returns-in_err-write_tree-clause-reads_back c = λ rest. rw (← c.forest.view_is) (forest_at-forest_bits _ rest c.forest.invariant)

pub returns-clause-reads_back : goal.returns-clause-reads_back
returns-clause-reads_back c = λ rest. rw (← c.forest.view_is) (forest_at-forest_bits _ rest c.forest.invariant)
