use Rattle.std.proofs.Common.{◌≡◌, ℕ, List, Option, ap}
use Rattle.vid_desk.specs.Meaning.{Meaning}
use Rattle.cut_app.specs.Forms.Form.{Checking}
use Rattle.cut_app.proofs.CheckLemmas.{sound_of, text_of_file}
use Rattle.cut_app.proofs.SayingLemmas.{said_since, stops_saying}
use Rattle.cut_app.proofs.checking.check.Goals as goal

pub returns-in-Ok-say-clause-said : goal.returns-in-Ok-say-clause-said
returns-in-Ok-say-clause-said g c = λ files told.
    let same : (g.D.Desk.sees c.judge_file.new.desk).said ≡ (g.D.Desk.sees c.args.desk.now).said = ap {A = Meaning} (λ m. m.said) c.in-Ok.ensures.kept in (
      c.deref.result.now,
      text_of_file files c.args.file.now c.deref.result.now c.in-Ok.source (c.in-Ok.ensures.found files told) (rw c.deref.ensures.value c.in-Ok-check_text.ensures),
      said_since (g.D.Desk.sees c.args.desk.now) (g.D.Desk.sees c.judge_file.new.desk) (g.D.Desk.sees c.say.new.self) c.deref.result.now same (ap {A = Meaning} {B = Option (List ℕ)} (λ m. m.said) c.in-Ok-say.ensures.said),
    )

pub returns-clause-stops : goal.returns-clause-stops
returns-clause-stops g c =
    let same : (g.D.Desk.sees c.judge_file.new.desk).said ≡ (g.D.Desk.sees c.args.desk.now).said = ap {A = Meaning} (λ m. m.said) c.in-Ok.ensures.kept in
    rw c.writing.ensures (stops_saying (g.D.Desk.sees c.args.desk.now) (g.D.Desk.sees c.judge_file.new.desk) (g.D.Desk.sees c.say.new.self) (Checking c.args.file.now) c.deref.result.now c.in-Err-say.fault same c.in-Err-say.ensures.said
    (λ files told. text_of_file files c.args.file.now c.deref.result.now c.in-Ok.source (c.in-Ok.ensures.found files told) (rw c.deref.ensures.value c.in-Ok-check_text.ensures)))

pub returns-in-Ok-say-clause-caused : goal.returns-in-Ok-say-clause-caused
returns-in-Ok-say-clause-caused g c = λ files told. sound_of files c.args.file.now c.in-Ok.source (c.in-Ok.ensures.found files told)
