use Rattle.std.proofs.Common.{arith, sym, ◌∙◌}
use Rattle.cut_slice.proofs.CuttingLemmas.{empty_not_plain, long_not_plain}
use Rattle.cut_slice.proofs.cutting.read_bytes.Goals as goal

pub returns-then-input-eq0-clause-not_plain : goal.returns-then-input-eq0-clause-not_plain
returns-then-input-eq0-clause-not_plain g c = λ files told. empty_not_plain _ (sym (c.requires.size files told) ∙ omega arith)

pub returns-then-input-gt-LONGEST_SOURCE-clause-not_plain : goal.returns-then-input-gt-LONGEST_SOURCE-clause-not_plain
returns-then-input-gt-LONGEST_SOURCE-clause-not_plain g c = λ files told. long_not_plain _ (omega (arith, c.requires.size files told))
