use Rattle.std.proofs.Common.{rules, ◌<◌, length, map, arith, ◌∙◌, sym}
use Rattle.std.proofs.lemmas.List.Elements.{All-nil}
use Rattle.std.proofs.lemmas.Result.{err_from_is_err_and}
use Rattle.vid_base.proofs.ItemLemmas.{items_end}
use Rattle.thr_huff.specs.CodeTree.{code_tree}
use Rattle.thr_huff.specs.Trees.{tree_at, IsTree}
use Rattle.thr_huff.proofs.ForestLemmas.{read_none, read_more, each_more, refused_forest}
use Rattle.thr_huff.proofs.forest.read_trees.Goals as goal

pub trees-init : goal.trees-init
trees-init c = record {
  few = search rules;
  each = rw c.in_ok-books.ensures.items (All-nil IsTree);
  read = rw c.in_ok-books.ensures.items (read_none c.args.r.now.left);
  end = search rules;
}

pub returns-in_err-book-clause-value : goal.returns-in_err-book-clause-value
returns-in_err-book-clause-value c =
    let few : length c.trees.books.items < 80 = omega (arith, c.len.ensures, c.trees.books.ok) in
    let exit = err_from_is_err_and c.from_residual-in_err-book.result c.from_residual-in_err-book.ensures.1 in
    rw (exit.1, exit.2, ← c.trees.invariant.read)
    (refused_forest (λ b. code_tree b.tree) (λ forest. forest) c.in_err-book.field-0.0 c.trees.books.items c.trees.r.left c.read.new.r.left few c.in_err-book.ensures.value)

pub trees-preserved : goal.trees-preserved
trees-preserved c =
    let few : length c.trees.books.items < 80 = omega (arith, c.len.ensures, c.trees.books.ok) in
    record {
      few = search rules;
      each = rw c.in_ok-push.ensures.items (each_more (λ b. code_tree b.tree) c.trees.books.items c.in_ok-book.book c.trees.invariant.each c.in_ok-book.ensures.tree);
      read = rw c.in_ok-push.ensures.items (read_more (λ b. code_tree b.tree) c.trees.books.items c.in_ok-book.book c.trees.r.left c.read.new.r.left _ few c.in_ok-book.ensures.value c.trees.invariant.read);
      end = search rules;
    }

pub returns-clause-value : goal.returns-clause-value
returns-clause-value c =
    sym c.trees.invariant.read ∙ items_end (tree_at 33 0) (map (λ b. code_tree b.tree) c.trees.books.items) 80 (length c.trees.books.items) c.trees.r.left (omega (arith, c.len.ensures, c.trees.books.ok))
