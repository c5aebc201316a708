use Rattle.std.proofs.Common.{◌+◌, ap}
use Rattle.vid_desk.specs.Meaning.{bytes_at}
use Rattle.y4m_io.specs.Pictures.{samples_of}
use Rattle.y4m_io.specs.Progress.{Progress, progress_of}
use Rattle.y4m_io.proofs.ReadingLemmas.{follow_end, follow_more, follow_bad}
use Rattle.y4m_io.proofs.reading.Y4m.next.Goals as goal

pub returns-in-Ok-None-clause-gives : goal.returns-in-Ok-None-clause-gives
returns-in-Ok-None-clause-gives g c = λ files told.
    let y = c.args.self.now in
    let found = rw c.in-Ok-None.field-0-is at c.in-Ok-None.ensures.found in
    follow_end (progress_of y) (bytes_at files y.input.id) c.in_default.is (found files told)

pub returns-in-Ok-Some-clause-gives : goal.returns-in-Ok-Some-clause-gives
returns-in-Ok-Some-clause-gives g c = λ files told.
    let y = c.args.self.now in
    let found = rw c.in-Ok-Some.field-0-is at c.in-Ok-Some.ensures.found in
    let is = ap (λ (p : Progress). let q : Progress = record p { at = p.at + c.in-Ok-Some.size; frames = p.frames + 1 } in q) c.next_frame.ensures.same in
    follow_more (progress_of y) _ c.in-Ok-Some.size (samples_of c.next_frame.new.into) (bytes_at files y.input.id) c.in_default.is (found files told) is

pub returns-in-Err-Bad-clause-gives : goal.returns-in-Err-Bad-clause-gives
returns-in-Err-Bad-clause-gives g c = λ files told.
    let y = c.args.self.now in
    let found = rw c.in-Err-Bad.field-0-is at c.in-Err-Bad.ensures.found in
    let bad = found files told in
    follow_bad (progress_of y) c.in-Err-Bad.frame c.in-Err-Bad.why (bytes_at files y.input.id) c.in_default.is bad.0 bad.1
