use Rattle.std.proofs.Common.{◌≡◌, [], ◌∷◌, length, map, Ok, ap, sym, ◌∙◌}
use Rattle.std.proofs.lemmas.List.{length-map}
use Rattle.cut_list.specs.Slices.{slices_view}
use Rattle.cut_plan.specs.Runs.{plan_of}
use Rattle.cut_plan.proofs.CountLemmas.{plan-few}
use Rattle.cut_app.proofs.runs.runs_of.Goals as goal

pub returns-in-Ok-plan-clause-few : goal.returns-in-Ok-plan-clause-few
returns-in-Ok-plan-clause-few c =
    let marks = c.in-Ok.keys.items in
    let sized : length marks ≡ c.frames.result = ap (λ keys. length keys) c.in-Ok.ensures ∙ length-map c.args.source.now.frames (λ frame. frame.key) ∙ sym c.frames.ensures.value in
    let planned : plan_of (map (λ m. length m) (marks ∷ [])) (marks ∷ []) (slices_view c.args.list.now.slices.items) ≡ Ok c.in-Ok-plan.runs.items = rw sized c.in-Ok-plan.ensures.value in
    plan-few (marks ∷ []) c.args.list.now.slices.items c.in-Ok-plan.runs.items planned
