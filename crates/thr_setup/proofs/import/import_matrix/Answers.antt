use Rattle.std.proofs.Common.{arith, ◌+◌, ◌*◌, ◌/◌, ◌%◌}
use Rattle.std.proofs.lemmas.List.FromFn.{fill_by_all}
use Rattle.thr_setup.specs.Import.{import_matrix}
use Rattle.thr_setup.proofs.import.import_matrix.Goals as goal

pub returns : goal.returns
unfolding import_matrix
returns c = fill_by_all (λ k. 16 + 4 * (k / 8 + k % 8)) c.loop-k.value-items 64 0 c.loop-k.invariant.long (λ k h. c.loop-k.invariant.values k (omega arith))
