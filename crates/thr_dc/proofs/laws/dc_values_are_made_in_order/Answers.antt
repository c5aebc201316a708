use Rattle.thr_dc.proofs.LawLemmas.{predicted_within}
use Rattle.thr_dc.proofs.OrderedLemmas.{by_new_at}
use Rattle.thr_dc.proofs.laws.dc_values_are_made_in_order.Goals as goal

pub returns : goal.returns
returns c = record { by_new_at = by_new_at; predictor = λ w kind before small. predicted_within 580 w kind before small }
