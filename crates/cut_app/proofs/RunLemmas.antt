-- Runs, one by one. The loop over the runs of a plan cites these.
use Rattle.std.proofs.Common.{◌≡◌, ℕ, ◌+◌, ◌<◌, suc, List, ◌∷◌, length, drop, get_or, ap, sym, ◌∙◌, drop-cons, add-one}
use Rattle.cut_plan.specs.declared.run.Run.{Run}

-- the runs that are left are the next and those behind it
pub run_item : (runs : List Run) (i : ℕ) (run : Run) → i < length runs → run ≡ get_or runs i run → drop i runs ≡ run ∷ drop (i + 1) runs
run_item runs i run inside is = drop-cons runs i run inside ∙ ap (λ x. x ∷ drop (suc i) runs) (sym is) ∙ ap (λ k. run ∷ drop k runs) (sym (add-one i))
