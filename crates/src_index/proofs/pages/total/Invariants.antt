use Rattle.std.proofs.Common.{◌≡◌, ◌*◌, ◌≤◌, take, sum}
use Rattle.src_index.proofs.pages.total.Given as goal

abbrev pub invariant-lacing : goal.invariant-lacing
invariant-lacing l = record { sum : l.total ≡ sum (take l.size-index l.lacing); bound : l.total ≤ 255 * l.size-index }
