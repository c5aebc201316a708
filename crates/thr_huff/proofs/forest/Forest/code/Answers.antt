use Rattle.std.proofs.Common.{◌≡◌, arith, ap, ◌∙◌, sym, map}
use Rattle.std.proofs.lemmas.List.{length-map}
use Rattle.thr_huff.specs.CodeTree.{code_tree}
use Rattle.thr_huff.specs.Codes.{codes_of, codes_at}
use Rattle.thr_huff.proofs.TreeLemmas.{fits_levels}
use Rattle.thr_huff.proofs.ForestLemmas.{tree_in, each_tree, read_back}
use Rattle.thr_huff.proofs.forest.Forest.code.Goals as goal

pub code_in-requires : goal.code_in-requires
code_in-requires c =
    (fits_levels (code_tree c.index-book.result.now.tree)
    (each_tree (λ b. code_tree b.tree) c.self.inside.books.items c.from.result c.index-book.result.now c.index-book.ensures (omega (arith, c.from.ensures)) c.self.invariant)).short

pub returns-clause-reads_back : goal.returns-clause-reads_back
returns-clause-reads_back c =
    let codes : codes_at c.args.self.now c.args.hti ≡ codes_of (code_tree c.index-book.result.now.tree) =
    ap (λ forest. codes_at forest c.args.hti) (sym c.self.view_is) ∙ ap (codes_at (map (λ b. code_tree b.tree) c.self.inside.books.items)) (sym c.from.ensures)
    ∙ ap codes_of (tree_in (λ b. code_tree b.tree) c.self.inside.books.items c.from.result c.index-book.result.now c.index-book.ensures
    (omega (arith, c.from.ensures, c.self.invariant.count, length-map c.self.inside.books.items (λ b. code_tree b.tree)))) in
    rw codes (read_back c.code_in.result (code_tree c.index-book.result.now.tree) c.args.token c.code_in.ensures)
