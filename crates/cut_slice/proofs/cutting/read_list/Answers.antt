use Rattle.std.proofs.Common.{arith, sym, ◌∙◌}
use Rattle.cut_slice.proofs.CuttingLemmas.{empty_no_slice}
use Rattle.cut_slice.proofs.cutting.read_list.Goals as goal

pub returns-then-input-eq0-clause-slice : goal.returns-then-input-eq0-clause-slice
returns-then-input-eq0-clause-slice g c = λ files told. sym (empty_no_slice _ (sym (c.requires.size files told) ∙ omega arith))
