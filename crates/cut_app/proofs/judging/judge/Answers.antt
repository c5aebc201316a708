use Rattle.std.proofs.Common.{Err, ap}
use Rattle.vid_desk.specs.Meaning.{bytes_at}
use Rattle.cut_app.proofs.JudgeLemmas.{refused_reading, refused_source}
use Rattle.cut_app.proofs.judging.judge.Goals as goal

pub returns-in-Err-clause-refused : goal.returns-in-Err-clause-refused
returns-in-Err-clause-refused g c = λ files told.
    rw c.refused.ensures (refused_source c.args.input (bytes_at files c.args.id) c.in-Err.fault (λ e. c.in-Err.ensures.never (ap (λ f. Err f) e)) (c.in-Err.ensures.judged files told))

pub returns-in-Err-clause-only : goal.returns-in-Err-clause-only
returns-in-Err-clause-only g c = rw c.refused.ensures (refused_reading c.args.input c.in-Err.fault (λ e. c.in-Err.ensures.never (ap (λ f. Err f) e)))
