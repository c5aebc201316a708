use Rattle.std.proofs.Common.{rules, refl}
use Rattle.ogg_link.proofs.StepLemmas.{start_holds}
use Rattle.src_index.specs.Said.{shift_of}
use Rattle.src_index.specs.Headers.{said_of}
use Rattle.src_index.specs.Holding.{kept_of}
use Rattle.src_index.proofs.SpacingLemmas.{nothing_tallied}
use Rattle.src_index.proofs.TurnLemmas.{follow_start}
use Rattle.src_index.proofs.judge.Judging.new.Goals as goal

pub returns-clause-follows : goal.returns-clause-follows
returns-clause-follows c = λ bytes. follow_start _ bytes (search rules) c.new-2.ensures.headers c.new-2.ensures.marks c.new-2.ensures.frames c.new-2.ensures.quantiser c.new-2.ensures.place c.new-2.ensures.begun refl

pub returns-clause-goes_on : goal.returns-clause-goes_on
returns-clause-goes_on c = record {
  whole = search rules;
  holds = rw (c.new.ensures, c.new-2.ensures.begun) start_holds;
  tallied = rw c.new.ensures (nothing_tallied (shift_of (said_of c.new-2.result.headers)) (kept_of c.new-2.result) c.new-2.ensures.headers c.new-2.ensures.frames);
}
