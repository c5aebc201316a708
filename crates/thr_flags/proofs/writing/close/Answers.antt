use Rattle.std.proofs.Common.{Option, subst}
use Rattle.thr_flags.specs.declared.writing.Run.{Run}
use Rattle.thr_flags.specs.Writing.{Holds}
use Rattle.thr_flags.proofs.WritingLemmas.{close_back, close_few, close_few_none, close_none, on_ok}
use Rattle.thr_flags.specs.Views.{run_form}
use Rattle.thr_flags.proofs.writing.close.Goals as goal

pub returns-in-None-clause-reads_back : goal.returns-in-None-clause-reads_back
returns-in-None-clause-reads_back c = λ old xs h.
    close_none (run_form c.args.code) old c.args.w.now xs (let P : Option Run → Type 0 = λ last. Holds (run_form c.args.code) old c.args.w.now xs last in subst P c.in-None.is h)

pub returns-in-Some-clause-reads_back : goal.returns-in-Some-clause-reads_back
returns-in-Some-clause-reads_back c =
    let run = rw c.in-Some.is at c.requires.run in
    on_ok c.write_run.result (λ back. λ old xs h.
    close_back (run_form c.args.code) old c.args.w.now c.write_run.new.w xs c.in-Some.run'.value c.in-Some.run'.length
    (let P : Option Run → Type 0 = λ last. Holds (run_form c.args.code) old c.args.w.now xs last in subst P c.in-Some.is h) run.0 back) c.write_run.ensures.reads_back

pub returns-in-None-clause-few : goal.returns-in-None-clause-few
returns-in-None-clause-few c = λ old xs h.
    close_few_none old c.args.w.now xs (let P : Option Run → Type 0 = λ last. Holds (run_form c.args.code) old c.args.w.now xs last in subst P c.in-None.is h)

pub returns-in-Some-clause-few : goal.returns-in-Some-clause-few
returns-in-Some-clause-few c =
    on_ok c.write_run.result (λ most. λ old xs h.
    close_few (run_form c.args.code) old c.args.w.now c.write_run.new.w xs c.in-Some.run'.value c.in-Some.run'.length
    (let P : Option Run → Type 0 = λ last. Holds (run_form c.args.code) old c.args.w.now xs last in subst P c.in-Some.is h) most) c.write_run.ensures.few
