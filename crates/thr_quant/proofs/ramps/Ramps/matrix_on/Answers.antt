use Rattle.std.proofs.Common.{rules, arith, ◌≡◌, ap, refl}
use Rattle.std.proofs.lemmas.List.Edits.{fill_by_more}
use Rattle.std.proofs.lemmas.List.FromFn.{fill_by_all}
use Rattle.thr_quant.specs.Ramps.{Ramps}
use Rattle.thr_quant.specs.Matrix.{entry_on, matrix_on, seen}
use Rattle.thr_quant.proofs.MatrixLemmas.{entry_is, matrix_read}
use Rattle.thr_quant.proofs.ramps.Ramps.matrix_on.Goals as goal

pub loop-k-preserved : goal.loop-k-preserved
loop-k-preserved c =
    let same : c.self.inside.matrices.items ≡ c.args.self.now.matrices = ap (λ (ramps : Ramps). ramps.matrices) c.self.view_is in
    let entry : c.scaled_entry.result ≡ entry_on c.args.self.now c.args.qti c.args.qi (seen c.args.stretch) c.loop-k.k =
    entry_is c.args.self.now c.args.qti c.args.qi c.loop-k.k c.scaled_entry.result (seen c.args.stretch) c.index-from.result.now c.index-to.result.now
    (matrix_read c.self.inside.matrices.items c.args.self.now.matrices c.from.result c.args.stretch.from c.index-from.result.now same c.from.ensures c.requires.named.0 c.index-from.ensures)
    (matrix_read c.self.inside.matrices.items c.args.self.now.matrices c.from-2.result c.args.stretch.to c.index-to.result.now same c.from-2.ensures c.requires.named.1 c.index-to.ensures)
    (rw (c.scaled_entry.ensures.value, c.scale_at.ensures, c.value_between-value.ensures.value, c.least_entry.ensures) refl) in
    record {
      long = search rules;
      entries = rw entry (fill_by_more (entry_on c.args.self.now c.args.qti c.args.qi (seen c.args.stretch)) c.loop-k.entry-items c.loop-k.k 0 (omega arith) c.loop-k.invariant.entries);
    }

pub returns : goal.returns
unfolding matrix_on
returns c = record {
  value = fill_by_all (entry_on c.args.self.now c.args.qti c.args.qi (seen c.args.stretch))
      c.loop-k.entry-items 64 0 c.loop-k.invariant.long (λ k h. c.loop-k.invariant.entries k (omega arith));
}
