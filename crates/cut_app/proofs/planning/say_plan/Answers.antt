use Rattle.std.proofs.Common.{◌≡◌, ℕ, List, Option, ap}
use Rattle.vid_desk.specs.Meaning.{Meaning}
use Rattle.cut_app.specs.Forms.Form.{Planning}
use Rattle.cut_app.specs.Plans.{Plan}
use Rattle.cut_app.proofs.SayingLemmas.{said_since, stops_saying}
use Rattle.cut_app.proofs.planning.say_plan.Goals as goal

pub returns-in-Ok-say-clause-caused : goal.returns-in-Ok-say-clause-caused
returns-in-Ok-say-clause-caused g c = λ files told. let made = c.in-Ok.ensures.text files told in (made.0, made.1)

pub returns-in-Ok-say-clause-said : goal.returns-in-Ok-say-clause-said
returns-in-Ok-say-clause-said g c = λ files told.
    let same : (g.D.Desk.sees c.make_text.new.desk).said ≡ (g.D.Desk.sees c.args.desk.now).said = ap {A = Meaning} (λ m. m.said) c.in-Ok.ensures.kept in (
      c.deref.result.now,
      rw (← c.deref.ensures.value) at (c.in-Ok.ensures.text files told),
      said_since (g.D.Desk.sees c.args.desk.now) (g.D.Desk.sees c.make_text.new.desk) (g.D.Desk.sees c.say.new.self) c.deref.result.now same (ap {A = Meaning} {B = Option (List ℕ)} (λ m. m.said) c.in-Ok-say.ensures.said),
    )

pub returns-clause-stops : goal.returns-clause-stops
returns-clause-stops g c =
    let names : Plan = record { list = c.args.list.now; source = c.args.source.now } in
    let same : (g.D.Desk.sees c.make_text.new.desk).said ≡ (g.D.Desk.sees c.args.desk.now).said = ap {A = Meaning} (λ m. m.said) c.in-Ok.ensures.kept in
    rw c.writing.ensures (stops_saying (g.D.Desk.sees c.args.desk.now) (g.D.Desk.sees c.make_text.new.desk) (g.D.Desk.sees c.say.new.self) (Planning names) c.deref.result.now c.in-Err-say.fault same c.in-Err-say.ensures.said
    (λ files told. rw (← c.deref.ensures.value) at (c.in-Ok.ensures.text files told)))
