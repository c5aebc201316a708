use Rattle.std.proofs.Common.{◌≡◌, length, All}
use Rattle.thr_dct.specs.Line.{Within}
use Rattle.thr_dct.proofs.tests.bounded.Given as goal

-- each number is within bounds
abbrev pub invariant-loop-k : goal.invariant-loop-k
invariant-loop-k l = record { long : length l.residuals ≡ 64; small : All (Within 255) l.residuals }
