use Rattle.std.proofs.Common.{sym}
use Rattle.std.proofs.lemmas.List.{append-nil}
use Rattle.thr_quant.specs.Ramps.{matrix_list_bits}
use Rattle.thr_quant.proofs.WritingLemmas.{matrix_step}
use Rattle.thr_quant.proofs.write.write_matrix_list.Goals as goal

pub loop-matrix-init : goal.loop-matrix-init
unfolding matrix_list_bits
loop-matrix-init c = sym (append-nil c.args.w.now)

pub loop-matrix-preserved : goal.loop-matrix-preserved
loop-matrix-preserved c = matrix_step c.loop-matrix.matrix-index c.args.matrices.now c.args.w.now c.loop-matrix.w c.write_matrix.new.w c.loop-matrix-test.true c.loop-matrix.invariant c.in_ok-write_matrix.ensures.written
