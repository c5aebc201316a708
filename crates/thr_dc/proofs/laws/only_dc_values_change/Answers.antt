use Rattle.thr_dc.proofs.OrderedLemmas.{all_within, still_blank, still_bounded}
use Rattle.thr_dc.proofs.laws.only_dc_values_change.Goals as goal

pub returns : goal.returns
returns c = record { blank = still_blank; bounds = still_bounded; within = all_within }
