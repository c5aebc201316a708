use Rattle.std.proofs.Common.{◌≡◌, ◌<◌, ℕ, length, None, slice_index_or}
use Rattle.vid_base.specs.Bits.{digits}
use Rattle.thr_huff.specs.CodeTree.{code_tree}
use Rattle.thr_huff.specs.Codes.{codes_of}
use Rattle.thr_huff.specs.Tables.{entry_of}
use Rattle.thr_huff.proofs.book.Book.new.Given as goal

abbrev pub invariant-windows : goal.invariant-windows
invariant-windows l = record {
  same : l.tree ≡ l.fn.tree;
  size : length l.table.items ≡ l.window;
  entries : (k : ℕ) → k < l.window → slice_index_or l.table.items k None ≡ entry_of (codes_of (code_tree l.tree)) (digits 8 k);
}
