use Rattle.std.proofs.Common.{◌≡◌, ◌+◌, ◌∷◌, ◌++◌, false, List, Bool, sym, ap, subst, ◌∙◌, take, drop, slice_index_or}
use Rattle.std.proofs.lemmas.List.{take_more, drop_more, take-append-drop}
use Rattle.thr_flags.specs.Writing.{Holds}
use Rattle.thr_flags.proofs.WritingLemmas.{fits_held}
use Rattle.thr_flags.specs.Views.{run_form}
use Rattle.thr_flags.proofs.writing.write_string.Goals as goal

pub push-requires-clause-fits : goal.push-requires-clause-fits
push-requires-clause-fits c =
    let i = c.values.value-index in
    let bits = c.args.bits.now in
    let next : bits ≡ take i bits ++ slice_index_or bits i false ∷ drop (i + 1) bits = sym (take-append-drop i bits) ∙ ap (λ z. take i bits ++ z) (drop_more bits i false c.values-test.true) in
    fits_held (run_form c.args.code) c.args.w.now c.values.w bits (take i bits) (drop (i + 1) bits) (slice_index_or bits i false) c.values.last c.requires next c.values.invariant.holds c.values.invariant.run

pub values-preserved : goal.values-preserved
values-preserved c =
    let i = c.values.value-index in
    let bits = c.args.bits.now in
    let P : List Bool → Type 0 = λ xs. Holds (run_form c.args.code) c.args.w.now c.push.new.w xs c.in_ok-last.last in
    record {
      holds = subst P (sym (take_more bits i false c.values-test.true)) (c.in_ok-last.ensures.written c.args.w.now (take i bits) c.values.invariant.holds);
      run = c.in_ok-last.ensures.run;
    }
