use Rattle.src_index.proofs.TurnLemmas.{ends_badly_as, found_as}
use Rattle.src_index.proofs.source.finish.Goals as goal

pub returns-in-Err-clause-finds : goal.returns-in-Err-clause-finds
returns-in-Err-clause-finds c = λ bytes whole f. ends_badly_as c.args.judging bytes c.args.size c.in-Err.refusal whole c.in-Err.ensures.fault f

pub returns-in-Ok-clause-finds : goal.returns-in-Ok-clause-finds
returns-in-Ok-clause-finds c = λ bytes whole f.
    found_as c.args.judging c.in-Ok.packets c.source_of.result bytes c.args.size c.args.input whole c.in-Ok.ensures.packets c.in-Ok.ensures.ended c.source_of.ensures.whole c.source_of.ensures.headers c.source_of.ensures.kept f
