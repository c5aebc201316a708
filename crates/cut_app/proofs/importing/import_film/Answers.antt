use Rattle.std.proofs.Common.{◌≡◌, ◌∙◌, ℕ, List, Option, false, ap, inr, rules}
use Rattle.vid_desk.specs.Meaning.{Meaning}
use Rattle.cut_report.specs.Lines.{imported_text}
use Rattle.cut_app.specs.Forms.Form.{Importing}
use Rattle.cut_app.specs.Imports.{Import, is_over}
use Rattle.cut_app.proofs.ExportLemmas.{says_left}
use Rattle.cut_app.proofs.ImportLemmas.{head_of_whole, import_text_of, imports_left, whole_of}
use Rattle.cut_app.proofs.SayingLemmas.{said_since, stops_saying}
use Rattle.cut_app.proofs.importing.import_film.Goals as goal

pub returns-in-Ok-say-clause-caused : goal.returns-in-Ok-say-clause-caused
returns-in-Ok-say-clause-caused g c = λ files told.
    let import : Import = record { y4m = c.args.y4m.now; out = c.args.out.now; coding = c.args.coding.now } in
    let apart : is_over import ≡ false = search rules in
    (apart, whole_of (g.D.Desk.sees c.args.desk.now) (g.D.Desk.sees c.code_film.new.desk) import files c.in-Ok.count (c.in-Ok.ensures.written files told))

pub returns-in-Ok-say-clause-written : goal.returns-in-Ok-say-clause-written
returns-in-Ok-say-clause-written g c = λ files told.
    let import : Import = record { y4m = c.args.y4m.now; out = c.args.out.now; coding = c.args.coding.now } in
    let left = says_left (g.D.Desk.sees c.code_film.new.desk) (g.D.Desk.sees c.say.new.self) c.deref.result.now c.say.result c.say.ensures.said in
    (c.in-Ok.count, imports_left (g.D.Desk.sees c.args.desk.now) (g.D.Desk.sees c.code_film.new.desk) (g.D.Desk.sees c.say.new.self) import files c.in-Ok.count left (c.in-Ok.ensures.written files told))

pub returns-in-Ok-say-clause-said : goal.returns-in-Ok-say-clause-said
returns-in-Ok-say-clause-said g c = λ files told.
    let import : Import = record { y4m = c.args.y4m.now; out = c.args.out.now; coding = c.args.coding.now } in
    let left = says_left (g.D.Desk.sees c.code_film.new.desk) (g.D.Desk.sees c.say.new.self) c.deref.result.now c.say.result c.say.ensures.said in
    let line : c.deref.result.now ≡ imported_text c.in-Ok.count = c.deref.ensures.value ∙ c.in-Ok-count_text.ensures in (
      c.deref.result.now,
      import_text_of (g.D.Desk.sees c.args.desk.now) (g.D.Desk.sees c.code_film.new.desk) (g.D.Desk.sees c.say.new.self) import files c.in-Ok.count c.deref.result.now left (c.in-Ok.ensures.written files told) line,
      said_since (g.D.Desk.sees c.args.desk.now) (g.D.Desk.sees c.code_film.new.desk) (g.D.Desk.sees c.say.new.self) c.deref.result.now c.in-Ok.ensures.silent (ap {A = Meaning} {B = Option (List ℕ)} (λ m. m.said) c.in-Ok-say.ensures.said),
    )

pub returns-clause-created : goal.returns-clause-created
returns-clause-created g c = λ files told.
    let import : Import = record { y4m = c.args.y4m.now; out = c.args.out.now; coding = c.args.coding.now } in
    let apart : is_over import ≡ false = search rules in
    inr (apart, head_of_whole files c.args.y4m.now (whole_of (g.D.Desk.sees c.args.desk.now) (g.D.Desk.sees c.code_film.new.desk) import files c.in-Ok.count (c.in-Ok.ensures.written files told)))

pub returns-clause-stops : goal.returns-clause-stops
returns-clause-stops g c =
    let import : Import = record { y4m = c.args.y4m.now; out = c.args.out.now; coding = c.args.coding.now } in
    let left = says_left (g.D.Desk.sees c.code_film.new.desk) (g.D.Desk.sees c.say.new.self) c.deref.result.now c.say.result c.say.ensures.said in
    let line : c.deref.result.now ≡ imported_text c.in-Ok.count = c.deref.ensures.value ∙ c.in-Ok-count_text.ensures in
    rw c.writing.ensures (stops_saying (g.D.Desk.sees c.args.desk.now) (g.D.Desk.sees c.code_film.new.desk) (g.D.Desk.sees c.say.new.self) (Importing import) c.deref.result.now c.in-Err-say.fault c.in-Ok.ensures.silent c.in-Err-say.ensures.said
    (λ files told. import_text_of (g.D.Desk.sees c.args.desk.now) (g.D.Desk.sees c.code_film.new.desk) (g.D.Desk.sees c.say.new.self) import files c.in-Ok.count c.deref.result.now left (c.in-Ok.ensures.written files told) line))
