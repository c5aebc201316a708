use Rattle.std.proofs.Common.{arith}
use Rattle.std.proofs.lemmas.Bool.{leb-true, le-leb}
use Rattle.vid_base.proofs.PlaceLemmas.{length-left_at}
use Rattle.vid_base.proofs.reader.BitReader.has.Goals as goal

pub returns-then-whole-ge5 : goal.returns-then-whole-ge5
returns-then-whole-ge5 c =
    rw (← c.self.view_is, length-left_at)
    (λ test. omega (arith, leb-true _ _ test), λ enough. le-leb _ _ (omega arith))

pub returns-else-whole-ge5 : goal.returns-else-whole-ge5
returns-else-whole-ge5 c =
    rw (← c.self.view_is, length-left_at)
    (λ test. omega (arith, leb-true _ _ test), λ enough. le-leb _ _ (omega arith))
