use Rattle.std.proofs.Common.{arith}
use Rattle.vid_base.proofs.PlaceLemmas.{length-left_at}
use Rattle.vid_base.proofs.reader.BitReader.left.Goals as goal

pub returns-then-self : goal.returns-then-self
returns-then-self c = rw (← c.self.view_is, length-left_at) (omega arith)

pub overflow_mul-result : goal.overflow_mul-result
overflow_mul-result c =
    let all = rw (← c.self.view_is, length-left_at) at c.requires in
    omega (arith, all)

pub overflow_add-result : goal.overflow_add-result
overflow_add-result c =
    let all = rw (← c.self.view_is, length-left_at) at c.requires in
    omega (arith, all)

pub returns : goal.returns
returns c = rw (← c.self.view_is, length-left_at) (omega arith)
