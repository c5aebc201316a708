use Rattle.std.proofs.Common.{length}
use Rattle.thr_huff.specs.CodeTree.{code_tree}
use Rattle.thr_huff.specs.Codes.{codes_of}
use Rattle.thr_huff.proofs.tree.+code_in.Given as goal

abbrev pub decreases-code_in : goal.decreases-code_in
decreases-code_in l = length (codes_of (code_tree l.tree.now))
