use Rattle.std.proofs.Common.{rules, ◌≡◌, ◌∷◌, [], false, true, not, sym, refl}
use Rattle.std.proofs.lemmas.List.{append-nil}
use Rattle.vid_base.specs.Reading.{one_bit}
use Rattle.thr_flags.specs.RunStrings.{is_renewed, next_value}
use Rattle.thr_flags.proofs.WritingLemmas.{one_more, open_next}
use Rattle.thr_flags.specs.Views.{run_form}
use Rattle.thr_flags.proofs.writing.turn.Goals as goal

pub returns-in_ok-put_bit-clause-written : goal.returns-in_ok-put_bit-clause-written
unfolding next_value one_bit
returns-in_ok-put_bit-clause-written c = λ old xs h.
    let renewed : is_renewed (run_form c.args.code) c.args.run.length ≡ true = search rules in
    open_next (run_form c.args.code) old c.args.w.now c.write_run.new.w c.put_bit.new.w xs (c.args.value ∷ []) c.args.run.value c.args.value c.args.run.length h c.requires.run.0
    c.in_ok-write_run.ensures.reads_back c.in_ok-put_bit.ensures.written (one_more (run_form c.args.code) c.args.w.now c.write_run.new.w c.put_bit.new.w c.args.value c.args.run.length renewed c.in_ok-write_run.ensures.most c.in_ok-put_bit.ensures.written) (λ rest. rw renewed refl)

pub returns-else-is_renewed-clause-written : goal.returns-else-is_renewed-clause-written
unfolding next_value
returns-else-is_renewed-clause-written c = λ old xs h.
    let same : is_renewed (run_form c.args.code) c.args.run.length ≡ false = search rules in
    let other : c.args.value ≡ not c.args.run.value = c.requires.other same in
    open_next (run_form c.args.code) old c.args.w.now c.write_run.new.w c.write_run.new.w xs [] c.args.run.value c.args.value c.args.run.length h c.requires.run.0
    c.in_ok-write_run.ensures.reads_back (sym (append-nil c.write_run.new.w)) c.in_ok-write_run.ensures.few (λ rest. rw (same, other) refl)
