use Rattle.std.proofs.Common.{arith, refl, rules, pos}
use Rattle.std.proofs.lemmas.Int.{ints}
use Rattle.std.proofs.lemmas.List.Elements.{All-replicate, All-set}
use Rattle.thr_dct.specs.Line.{Within}
use Rattle.thr_dct.proofs.tests.bounded.Goals as goal

pub loop-k-init : goal.loop-k-init
loop-k-init c = record {
  long = refl;
  small = All-replicate (Within 255) 64 (pos 0) (record { low = omega (arith, ints); high = omega (arith, ints) });
}

pub loop-k-preserved : goal.loop-k-preserved
loop-k-preserved c = record {
  long = search rules;
  small = All-set (Within 255) c.loop-k.residuals c.loop-k.k _ (record { low = omega (arith, ints); high = omega (arith, ints) }) c.loop-k.invariant.small;
}
