use Rattle.std.proofs.Common.{length, ◌∙◌}
use Rattle.thr_quant.proofs.MatrixLemmas.{matrix-entries, matrix-first}
use Rattle.thr_quant.proofs.MeetingLemmas.{matrix_on-every}
use Rattle.thr_quant.specs.Matrix.{stretches_of, ranges_at}
use Rattle.thr_quant.proofs.ramps.Ramps.matrix.Goals as goal

pub matrix_on-requires-clause-named : goal.matrix_on-requires-clause-named
matrix_on-requires-clause-named c = c.stretch_at-stretch.ensures.named (length c.args.self.now.matrices) c.ranges_at.ensures.named

pub returns-clause-entries : goal.returns-clause-entries
returns-clause-entries c = matrix-entries c.args.self.now c.args.qti c.args.qi _ c.matrix_on.result c.matrix_on.ensures.value

pub returns-clause-first : goal.returns-clause-first
returns-clause-first c = matrix-first c.args.self.now c.args.qti c.args.qi _ c.matrix_on.result c.matrix_on.ensures.value

pub returns-clause-every_range : goal.returns-clause-every_range
unfolding stretches_of
returns-clause-every_range c = λ stretch member held.
    let sizes = rw c.ranges_at.ensures.value at c.stretch_at-stretch.ensures.sizes in
    let found = rw c.ranges_at.ensures.value at c.stretch_at-stretch.ensures.value in
    c.matrix_on.ensures.value
    ∙ matrix_on-every c.args.self.now c.args.qti c.args.qi 0 (ranges_at c.args.self.now c.args.qti c.args.pli).start member.0 (ranges_at c.args.self.now c.args.qti c.args.pli).list stretch _
    sizes member.1 member.2 held found
