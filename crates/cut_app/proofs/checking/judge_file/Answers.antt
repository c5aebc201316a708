use Rattle.std.proofs.Common.{◌≡◌, Some, refl, ap, sym, ◌∙◌, arith}
use Rattle.vid_desk.specs.Meaning.{Meaning, bytes_at, place_of}
use Rattle.cut_desk.proofs.InputLemmas.{contents_is}
use Rattle.src_index.proofs.SourceLemmas.{still_loaded}
use Rattle.cut_app.proofs.JudgeLemmas.{check_refused}
use Rattle.cut_app.proofs.checking.judge_file.Goals as goal

pub returns-in-Ok-clause-found : goal.returns-in-Ok-clause-found
returns-in-Ok-clause-found g c = λ files told.
    let after : (g.D.Desk.sees c.find.new.self).inputs ≡ Some files = ap {A = Meaning} (λ m. m.inputs) c.in-Ok-Some.ensures.kept ∙ told in
    let place : place_of files c.args.file.now ≡ Some c.in-Ok-Some.id = sym (c.in-Ok-Some.ensures.found.0 files after) ∙ c.in-Ok-Some.field-0-is in
    let judged = c.in-Ok.ensures.judged files after in
    record { bytes = bytes_at files c.in-Ok-Some.id; there = contents_is files c.args.file.now c.in-Ok-Some.id _ place refl; short = judged.0; indexed = judged.1 }

pub returns-in-Err-judge-clause-caused : goal.returns-in-Err-judge-clause-caused
returns-in-Err-judge-clause-caused g c = λ files told.
    let after : (g.D.Desk.sees c.find.new.self).inputs ≡ Some files = ap {A = Meaning} (λ m. m.inputs) c.in-Ok-Some.ensures.kept ∙ told in
    let place : place_of files c.args.file.now ≡ Some c.in-Ok-Some.id = sym (c.in-Ok-Some.ensures.found.0 files after) ∙ c.in-Ok-Some.field-0-is in
    check_refused files c.args.file.now (bytes_at files c.in-Ok-Some.id) c.in-Err-judge.status (contents_is files c.args.file.now c.in-Ok-Some.id _ place refl) (c.in-Err-judge.ensures.refused files after)

pub returns-in-Ok-clause-held : goal.returns-in-Ok-clause-held
returns-in-Ok-clause-held g c =
    let found : (g.D.Desk.sees c.judge.new.desk).found ≡ (g.D.Desk.sees c.find.new.self).found = ap {A = Meaning} (λ m. m.found) c.in-Ok.ensures.kept in
    let there = rw c.in-Ok-Some.field-0-is at (c.in-Ok-Some.ensures.found.1) in
    (omega (arith, c.in-Ok.ensures.loaded.0, found, there), still_loaded (g.D.Desk.sees c.find.new.self) (g.D.Desk.sees c.judge.new.desk) c.in-Ok-Some.id c.in-Ok.source c.in-Ok.ensures.kept c.in-Ok.ensures.loaded)

pub returns-in-Ok-clause-place : goal.returns-in-Ok-clause-place
returns-in-Ok-clause-place g c = λ files told.
    let after : (g.D.Desk.sees c.find.new.self).inputs ≡ Some files = ap {A = Meaning} (λ m. m.inputs) c.in-Ok-Some.ensures.kept ∙ told in
    let place : place_of files c.args.file.now ≡ Some c.in-Ok-Some.id = sym (c.in-Ok-Some.ensures.found.0 files after) ∙ c.in-Ok-Some.field-0-is in
    contents_is files c.args.file.now c.in-Ok-Some.id (bytes_at files c.in-Ok.source.input) place (ap (bytes_at files) c.in-Ok.ensures.loaded.0)
