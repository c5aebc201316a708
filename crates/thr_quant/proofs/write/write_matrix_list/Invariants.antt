use Rattle.std.proofs.Common.{◌≡◌, ◌++◌, take}
use Rattle.thr_quant.specs.Ramps.{matrix_list_bits}
use Rattle.thr_quant.proofs.write.write_matrix_list.Given as goal

-- the matrices so far stand behind what was there
abbrev pub invariant-loop-matrix : goal.invariant-loop-matrix
invariant-loop-matrix l = l.w ≡ l.fn.w ++ matrix_list_bits (take l.matrix-index l.matrices)
