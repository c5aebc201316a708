use Rattle.std.proofs.Common.{arith, refl}
use Rattle.thr_dct.specs.Line.{line}
use Rattle.thr_dct.proofs.Cuts.{cuts}
use Rattle.thr_dct.proofs.EndsLemmas.{cons}
use Rattle.thr_dct.proofs.line.line.Goals as goal

pub returns : goal.returns
unfolding line
returns c =
    cons (grind (arith, cuts)) (cons (grind (arith, cuts)) (cons (grind (arith, cuts)) (cons (grind (arith, cuts)) (cons (grind (arith, cuts)) (cons (grind (arith, cuts)) (cons (grind (arith, cuts)) (cons (grind (arith, cuts)) refl)))))))
