use Rattle.std.proofs.Common.{◌≡◌, ◌∙◌, ◌∷◌, sym, subst, Option}
use Rattle.thr_token.specs.declared.run.Run.{Run}
use Rattle.thr_token.specs.Telling.{Told}
use Rattle.thr_token.proofs.adding.end.Goals.{in_default-via-in-Some+else-run-lt-LONGEST_RUN, in_default-via-in_default}
use Rattle.thr_token.proofs.adding.end.Goals as goal

-- the run that was held back is closed, and the block begins another
pub returns-in_ok-close-in_default-clause-told : goal.returns-in_ok-close-in_default-clause-told
returns-in_ok-close-in_default-clause-told c = λ whole rest next ends held more t behind says.
    let same : c.in_default.run ≡ c.args.run = elim c.in_default.branch [
      | in_default-via-in-Some+else-run-lt-LONGEST_RUN w ↦ w.run-is ∙ sym w.in-Some.is
      | in_default-via-in_default w ↦ w.run-is
    ] in
    c.in_ok-close-in_default.ensures.told whole rest (subst (λ (r : Option Run). Told whole rest c.args.tokens.now.items r) (sym same) held) (t ∷ behind) ∙ ends.begins more t behind says
