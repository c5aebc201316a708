use Rattle.thr_loop.specs.Filtered.{filtered_frame}
use Rattle.thr_loop.proofs.frame.filter.Goals as goal

pub returns-clause-value : goal.returns-clause-value
unfolding filtered_frame
returns-clause-value c = (cc)
