use Rattle.std.proofs.Common.{arith}
use Rattle.thr_quant.specs.Ramps.{IsBaseMatrix}
use Rattle.thr_quant.proofs.WritingLemmas.{each_step}
use Rattle.thr_quant.proofs.laws.matrices_fit_a_header.Goals as goal

pub loop-matrix-init : goal.loop-matrix-init
loop-matrix-init c = λ k blank h. absurd (omega arith)

pub loop-matrix-preserved : goal.loop-matrix-preserved
loop-matrix-preserved c = each_step IsBaseMatrix c.loop-matrix.matrix-index c.args.matrices.now c.loop-matrix-test.true c.loop-matrix.invariant c.matrix_fits_a_header.ensures

pub returns : goal.returns
returns c = λ k d h. c.loop-matrix.invariant k d (omega arith)
