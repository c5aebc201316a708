use Rattle.std.proofs.Common.{◌≡◌, ◌∙◌, ℕ, List, Option, false, ap, inr, rules}
use Rattle.vid_desk.specs.Meaning.{Meaning}
use Rattle.cut_report.specs.Lines.{exported_text}
use Rattle.src_index.specs.Index.{frame_count}
use Rattle.cut_app.specs.Forms.Form.{Exporting}
use Rattle.cut_app.specs.Exports.{Export, is_same}
use Rattle.cut_app.proofs.CheckLemmas.{sound_of}
use Rattle.cut_app.proofs.SayingLemmas.{said_since, stops_saying}
use Rattle.cut_app.proofs.ExportLemmas.{export_broken, export_refused, exported_left, exporting_stops, looks_left, most_left, most_since, reading_stops, says_left, text_of, until_exporting, until_left, Written, written_by}
use Rattle.cut_app.proofs.exporting.export_file.Goals as goal

pub returns-in-Err-clause-caused : goal.returns-in-Err-clause-caused
returns-in-Err-clause-caused g c = λ files told.
    let export : Export = record { file = c.args.file.now; out = c.args.out.now } in
    let apart : is_same export ≡ false = search rules in
    export_refused export files c.in-Err.status apart (c.in-Err.ensures.caused files told)

pub returns-in-Err-clause-before : goal.returns-in-Err-clause-before
returns-in-Err-clause-before g c = until_left _ _ c.in-Err.status (looks_left (g.D.Desk.sees c.args.desk.now) (g.D.Desk.sees c.judge_file.new.desk) c.in-Err.ensures.kept)

pub returns-in-Err-clause-stops : goal.returns-in-Err-clause-stops
returns-in-Err-clause-stops g c =
    let export : Export = record { file = c.args.file.now; out = c.args.out.now } in
    reading_stops (Exporting export) (g.D.Desk.sees c.args.desk.now) (g.D.Desk.sees c.judge_file.new.desk) c.in-Err.status c.in-Err.ensures.only (ap {A = Meaning} (λ m. m.said) c.in-Err.ensures.kept)

pub returns-in-Err-export-clause-caused : goal.returns-in-Err-export-clause-caused
returns-in-Err-export-clause-caused g c = λ files told.
    let export : Export = record { file = c.args.file.now; out = c.args.out.now } in
    export_broken export files c.in-Err-export.status c.in-Err-export.ensures.only (c.in-Err-export.ensures.never files (ap {A = Meaning} (λ m. m.inputs) c.in-Ok.ensures.kept ∙ told))

pub returns-in-Err-export-clause-outputs : goal.returns-in-Err-export-clause-outputs
returns-in-Err-export-clause-outputs g c = most_since (g.D.Desk.sees c.args.desk.now) (g.D.Desk.sees c.judge_file.new.desk) (g.D.Desk.sees c.export.new.desk) c.args.out.now c.in-Ok.ensures.kept c.in-Err-export.ensures.outputs

pub returns-in-Err-export-clause-created : goal.returns-in-Err-export-clause-created
returns-in-Err-export-clause-created g c = λ files told.
    let export : Export = record { file = c.args.file.now; out = c.args.out.now } in
    let apart : is_same export ≡ false = search rules in
    inr (apart, sound_of files c.args.file.now c.in-Ok.source (c.in-Ok.ensures.found files told))

pub returns-in-Err-export-clause-before : goal.returns-in-Err-export-clause-before
returns-in-Err-export-clause-before g c = until_exporting _ _ c.in-Err-export.status c.in-Err-export.ensures.only

pub returns-in-Err-export-clause-stops : goal.returns-in-Err-export-clause-stops
returns-in-Err-export-clause-stops g c =
    let export : Export = record { file = c.args.file.now; out = c.args.out.now } in
    exporting_stops (Exporting export) (g.D.Desk.sees c.args.desk.now) (g.D.Desk.sees c.export.new.desk) c.in-Err-export.status c.in-Err-export.ensures.only
    (ap {A = Meaning} (λ m. m.said) c.in-Err-export.ensures.kept ∙ ap {A = Meaning} (λ m. m.said) c.in-Ok.ensures.kept)

pub returns-in_default-clause-outputs : goal.returns-in_default-clause-outputs
returns-in_default-clause-outputs g c = most_since (g.D.Desk.sees c.args.desk.now) (g.D.Desk.sees c.judge_file.new.desk) (g.D.Desk.sees c.export.new.desk) c.args.out.now c.in-Ok.ensures.kept c.in-Ok-export.ensures.outputs

pub returns-in_default-clause-created : goal.returns-in_default-clause-created
returns-in_default-clause-created g c = λ files told.
    let export : Export = record { file = c.args.file.now; out = c.args.out.now } in
    let apart : is_same export ≡ false = search rules in
    inr (apart, sound_of files c.args.file.now c.in-Ok.source (c.in-Ok.ensures.found files told))

pub returns-in-Ok-say-clause-outputs : goal.returns-in-Ok-say-clause-outputs
returns-in-Ok-say-clause-outputs g c = most_left _ _ _ c.args.out.now (says_left (g.D.Desk.sees c.export.new.desk) (g.D.Desk.sees c.say.new.self) c.deref.result.now c.say.result c.say.ensures.said) (most_since (g.D.Desk.sees c.args.desk.now) (g.D.Desk.sees c.judge_file.new.desk) (g.D.Desk.sees c.export.new.desk) c.args.out.now c.in-Ok.ensures.kept c.in-Ok-export.ensures.outputs)

pub returns-in-Ok-say-clause-created : goal.returns-in-Ok-say-clause-created
returns-in-Ok-say-clause-created g c = λ files told.
    let export : Export = record { file = c.args.file.now; out = c.args.out.now } in
    let apart : is_same export ≡ false = search rules in
    inr (apart, sound_of files c.args.file.now c.in-Ok.source (c.in-Ok.ensures.found files told))

pub returns-clause-outputs : goal.returns-clause-outputs
returns-clause-outputs g c = most_left _ _ _ c.args.out.now (says_left (g.D.Desk.sees c.export.new.desk) (g.D.Desk.sees c.say.new.self) c.deref.result.now c.say.result c.say.ensures.said) (most_since (g.D.Desk.sees c.args.desk.now) (g.D.Desk.sees c.judge_file.new.desk) (g.D.Desk.sees c.export.new.desk) c.args.out.now c.in-Ok.ensures.kept c.in-Ok-export.ensures.outputs)

pub returns-clause-created : goal.returns-clause-created
returns-clause-created g c = λ files told.
    let export : Export = record { file = c.args.file.now; out = c.args.out.now } in
    let apart : is_same export ≡ false = search rules in
    inr (apart, sound_of files c.args.file.now c.in-Ok.source (c.in-Ok.ensures.found files told))

pub returns-in-Ok-say-clause-caused : goal.returns-in-Ok-say-clause-caused
returns-in-Ok-say-clause-caused g c = λ files told.
    let export : Export = record { file = c.args.file.now; out = c.args.out.now } in
    let apart : is_same export ≡ false = search rules in
    (apart, sound_of files c.args.file.now c.in-Ok.source (c.in-Ok.ensures.found files told))

pub returns-in-Ok-say-clause-written : goal.returns-in-Ok-say-clause-written
returns-in-Ok-say-clause-written g c = λ files told.
    let export : Export = record { file = c.args.file.now; out = c.args.out.now } in
    let is : Written (g.D.Desk.sees c.args.desk.now) (g.D.Desk.sees c.export.new.desk) files export c.in-Ok.source =
    written_by _ (g.D.Desk.sees c.judge_file.new.desk) _ files export c.in-Ok.source c.in-Ok.ensures.kept told (c.in-Ok.ensures.found files told) (c.in-Ok.ensures.place files told) c.in-Ok.ensures.held.1 c.in-Ok-export.ensures.written in
    exported_left _ _ _ files export (says_left (g.D.Desk.sees c.export.new.desk) (g.D.Desk.sees c.say.new.self) c.deref.result.now c.say.result c.say.ensures.said) is.exported

pub returns-in-Ok-say-clause-said : goal.returns-in-Ok-say-clause-said
returns-in-Ok-say-clause-said g c = λ files told.
    let export : Export = record { file = c.args.file.now; out = c.args.out.now } in
    let is : Written (g.D.Desk.sees c.args.desk.now) (g.D.Desk.sees c.export.new.desk) files export c.in-Ok.source =
    written_by _ (g.D.Desk.sees c.judge_file.new.desk) _ files export c.in-Ok.source c.in-Ok.ensures.kept told (c.in-Ok.ensures.found files told) (c.in-Ok.ensures.place files told) c.in-Ok.ensures.held.1 c.in-Ok-export.ensures.written in
    let same : (g.D.Desk.sees c.export.new.desk).said ≡ (g.D.Desk.sees c.args.desk.now).said = ap {A = Meaning} (λ m. m.said) c.in-Ok-export.ensures.kept ∙ ap {A = Meaning} (λ m. m.said) c.in-Ok.ensures.kept in
    let line : c.deref.result.now ≡ exported_text (frame_count c.in-Ok.source) = c.deref.ensures.value ∙ c.in-Ok-count_text.ensures ∙ ap exported_text c.frames.ensures.value in (
      c.deref.result.now,
      text_of (g.D.Desk.sees c.args.desk.now) (g.D.Desk.sees c.export.new.desk) (g.D.Desk.sees c.say.new.self) files export c.in-Ok.source c.deref.result.now (says_left (g.D.Desk.sees c.export.new.desk) (g.D.Desk.sees c.say.new.self) c.deref.result.now c.say.result c.say.ensures.said) is line,
      said_since (g.D.Desk.sees c.args.desk.now) (g.D.Desk.sees c.export.new.desk) (g.D.Desk.sees c.say.new.self) c.deref.result.now same (ap {A = Meaning} {B = Option (List ℕ)} (λ m. m.said) c.in-Ok-say.ensures.said),
    )

pub returns-clause-stops : goal.returns-clause-stops
returns-clause-stops g c =
    let export : Export = record { file = c.args.file.now; out = c.args.out.now } in
    let same : (g.D.Desk.sees c.export.new.desk).said ≡ (g.D.Desk.sees c.args.desk.now).said = ap {A = Meaning} (λ m. m.said) c.in-Ok-export.ensures.kept ∙ ap {A = Meaning} (λ m. m.said) c.in-Ok.ensures.kept in
    let line : c.deref.result.now ≡ exported_text (frame_count c.in-Ok.source) = c.deref.ensures.value ∙ c.in-Ok-count_text.ensures ∙ ap exported_text c.frames.ensures.value in
    rw c.writing.ensures (stops_saying (g.D.Desk.sees c.args.desk.now) (g.D.Desk.sees c.export.new.desk) (g.D.Desk.sees c.say.new.self) (Exporting export) c.deref.result.now c.in-Err-say.fault same c.in-Err-say.ensures.said
    (λ files told.
    let is : Written (g.D.Desk.sees c.args.desk.now) (g.D.Desk.sees c.export.new.desk) files export c.in-Ok.source =
    written_by _ (g.D.Desk.sees c.judge_file.new.desk) _ files export c.in-Ok.source c.in-Ok.ensures.kept told (c.in-Ok.ensures.found files told) (c.in-Ok.ensures.place files told) c.in-Ok.ensures.held.1 c.in-Ok-export.ensures.written in
    text_of (g.D.Desk.sees c.args.desk.now) (g.D.Desk.sees c.export.new.desk) (g.D.Desk.sees c.say.new.self) files export c.in-Ok.source c.deref.result.now (says_left (g.D.Desk.sees c.export.new.desk) (g.D.Desk.sees c.say.new.self) c.deref.result.now c.say.result c.say.ensures.said) is line))
