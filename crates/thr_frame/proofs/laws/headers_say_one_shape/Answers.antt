use Rattle.thr_frame.proofs.ShapeLemmas.{one_shape}
use Rattle.thr_frame.proofs.laws.headers_say_one_shape.Goals as goal

pub returns : goal.returns
returns c = one_shape
