use Rattle.std.proofs.Common.{◌≡◌, ◌∙◌, Err, Some, ap, inr, sym}
use Rattle.vid_desk.specs.Meaning.{Meaning, place_of}
use Rattle.cut_app.proofs.ImportLemmas.{created_headed, head_of, refuses_film}
use Rattle.cut_app.proofs.importing.code_film.Goals as goal

pub returns-in-Ok-clause-created : goal.returns-in-Ok-clause-created
returns-in-Ok-clause-created g c = λ files told.
    let after : (g.D.Desk.sees c.find.new.self).inputs ≡ Some files = ap {A = Meaning} (λ m. m.inputs) c.in-Ok-Some.ensures.kept ∙ told in
    let place : place_of files c.args.y4m.now ≡ Some c.in-Ok-Some.id = sym (c.in-Ok-Some.ensures.found.0 files after) ∙ c.in-Ok-Some.field-0-is in
    let wrote = c.in-Ok.ensures.written files after in
    inr (head_of files c.args.y4m.now c.in-Ok-Some.id c.args.coding.now.qi c.args.coding.now.keys c.in-Ok.count wrote.0 place wrote.1)

pub returns-in-Err-import-clause-refused : goal.returns-in-Err-import-clause-refused
returns-in-Err-import-clause-refused g c = λ files told.
    let after : (g.D.Desk.sees c.find.new.self).inputs ≡ Some files = ap {A = Meaning} (λ m. m.inputs) c.in-Ok-Some.ensures.kept ∙ told in
    let place : place_of files c.args.y4m.now ≡ Some c.in-Ok-Some.id = sym (c.in-Ok-Some.ensures.found.0 files after) ∙ c.in-Ok-Some.field-0-is in
    refuses_film files c.args.y4m.now c.in-Ok-Some.id c.in-Err-import.status c.in-Err-import.ensures.only place
    (λ frame why e. c.in-Err-import.ensures.departs frame why (ap (λ status. Err status) e) files after)

pub returns-in-Err-import-clause-created : goal.returns-in-Err-import-clause-created
returns-in-Err-import-clause-created g c = λ files told.
    let after : (g.D.Desk.sees c.find.new.self).inputs ≡ Some files = ap {A = Meaning} (λ m. m.inputs) c.in-Ok-Some.ensures.kept ∙ told in
    let place : place_of files c.args.y4m.now ≡ Some c.in-Ok-Some.id = sym (c.in-Ok-Some.ensures.found.0 files after) ∙ c.in-Ok-Some.field-0-is in
    created_headed (g.D.Desk.sees c.args.desk.now) (g.D.Desk.sees c.find.new.self) (g.D.Desk.sees c.import.new.desk) files c.args.y4m.now c.in-Ok-Some.id
    (ap {A = Meaning} (λ m. m.outputs) c.in-Ok-Some.ensures.kept, ap {A = Meaning} (λ m. m.named) c.in-Ok-Some.ensures.kept) place
    (λ why bad. c.in-Err-import.ensures.head why files after bad)
