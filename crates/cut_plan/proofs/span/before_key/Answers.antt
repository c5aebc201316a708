use Rattle.std.proofs.Common.{◌∙◌, ap, length}
use Rattle.std.specs.Prelude.{unwrap_or}
use Rattle.cut_plan.proofs.JoinLemmas.{place-or_len}
use Rattle.cut_plan.proofs.span.before_key.Goals as goal

pub returns-clause-value : goal.returns-clause-value
returns-clause-value c = c.unwrap_or.ensures ∙ ap (λ place. unwrap_or place (length c.args.marks.now)) c.first_place.ensures ∙ place-or_len c.args.marks.now
