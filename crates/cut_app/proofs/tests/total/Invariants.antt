use Rattle.std.proofs.Common.{◌≡◌, ◌*◌, ◌≤◌, take, sum}
use Rattle.cut_app.proofs.tests.total.Given as goal

abbrev pub invariant-loop-size : goal.invariant-loop-size
invariant-loop-size l = record { sum : l.total ≡ sum (take l.size-index l.lacing); bound : l.total ≤ 255 * l.size-index }
