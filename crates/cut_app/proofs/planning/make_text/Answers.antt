use Rattle.std.proofs.Common.{◌≡◌, Some, refl, ap, ◌∙◌, arith}
use Rattle.vid_desk.specs.Meaning.{Meaning, bytes_at}
use Rattle.cut_list.specs.Slices.{slices_view}
use Rattle.cut_desk.proofs.InputLemmas.{contents_is}
use Rattle.cut_app.specs.Plans.{Plan}
use Rattle.cut_app.proofs.JudgeLemmas.{plan_refused}
use Rattle.cut_app.proofs.PlanLemmas.{GivesIndex, gives_of, list_refused, plan_by, range_refused, read_of}
use Rattle.cut_app.proofs.planning.make_text.Goals as goal

pub returns-in-Err-judge-clause-caused : goal.returns-in-Err-judge-clause-caused
returns-in-Err-judge-clause-caused g c = λ files told.
    let names : Plan = record { list = c.args.list.now; source = c.args.source.now } in
    let after : (g.D.Desk.sees c.find_within.new.desk).inputs ≡ Some files = ap {A = Meaning} (λ m. m.inputs) c.in-Ok.ensures.kept ∙ told in
    let places = c.in-Ok.ensures.places files told in
    plan_refused files names (bytes_at files c.in-Ok.inputs.list.id) (bytes_at files c.in-Ok.inputs.source.id) c.in-Err-judge.status
    (contents_is files c.args.list.now c.in-Ok.inputs.list.id _ places.0 refl) (omega (arith, (c.in-Ok.ensures.sizes files told).0, c.in-Ok.ensures.within)) (contents_is files c.args.source.now c.in-Ok.inputs.source.id _ places.1 refl)
    (c.in-Err-judge.ensures.refused files after)

pub returns-in-Err-list_of-clause-caused : goal.returns-in-Err-list_of-clause-caused
returns-in-Err-list_of-clause-caused g c = λ files told.
    let names : Plan = record { list = c.args.list.now; source = c.args.source.now } in
    let after : (g.D.Desk.sees c.find_within.new.desk).inputs ≡ Some files = ap {A = Meaning} (λ m. m.inputs) c.in-Ok.ensures.kept ∙ told in
    let later : (g.D.Desk.sees c.judge.new.desk).inputs ≡ Some files = ap {A = Meaning} (λ m. m.inputs) c.in-Ok-judge.ensures.kept ∙ after in
    let places = c.in-Ok.ensures.places files told in
    let gives : GivesIndex files names (bytes_at files c.in-Ok.inputs.list.id) c.in-Ok-judge.judged =
    gives_of files names c.in-Ok.inputs.list.id c.in-Ok.inputs.source.id c.in-Ok.inputs.list.size c.in-Ok-judge.judged places.0 places.1 (c.in-Ok.ensures.sizes files told).0 c.in-Ok.ensures.within (c.in-Ok-judge.ensures.judged files after) in
    list_refused files names (bytes_at files c.in-Ok.inputs.list.id) c.in-Ok-judge.judged c.in-Err-list_of.status gives (c.in-Err-list_of.ensures.refused files later)

pub returns-in-Err-runs_of-clause-caused : goal.returns-in-Err-runs_of-clause-caused
returns-in-Err-runs_of-clause-caused g c = λ files told.
    let names : Plan = record { list = c.args.list.now; source = c.args.source.now } in
    let after : (g.D.Desk.sees c.find_within.new.desk).inputs ≡ Some files = ap {A = Meaning} (λ m. m.inputs) c.in-Ok.ensures.kept ∙ told in
    let later : (g.D.Desk.sees c.judge.new.desk).inputs ≡ Some files = ap {A = Meaning} (λ m. m.inputs) c.in-Ok-judge.ensures.kept ∙ after in
    let places = c.in-Ok.ensures.places files told in
    let gives : GivesIndex files names (bytes_at files c.in-Ok.inputs.list.id) c.in-Ok-judge.judged =
    gives_of files names c.in-Ok.inputs.list.id c.in-Ok.inputs.source.id c.in-Ok.inputs.list.size c.in-Ok-judge.judged places.0 places.1 (c.in-Ok.ensures.sizes files told).0 c.in-Ok.ensures.within (c.in-Ok-judge.ensures.judged files after) in
    range_refused files names (bytes_at files c.in-Ok.inputs.list.id) (slices_view c.in-Ok-list_of.items.slices.items) c.in-Ok-judge.judged c.in-Err-runs_of.status gives (c.in-Ok-list_of.ensures.listed files later) c.in-Err-runs_of.ensures.refused

pub returns-in-Ok-text_of-clause-text : goal.returns-in-Ok-text_of-clause-text
returns-in-Ok-text_of-clause-text g c = λ files told.
    let names : Plan = record { list = c.args.list.now; source = c.args.source.now } in
    let after : (g.D.Desk.sees c.find_within.new.desk).inputs ≡ Some files = ap {A = Meaning} (λ m. m.inputs) c.in-Ok.ensures.kept ∙ told in
    let later : (g.D.Desk.sees c.judge.new.desk).inputs ≡ Some files = ap {A = Meaning} (λ m. m.inputs) c.in-Ok-judge.ensures.kept ∙ after in
    let places = c.in-Ok.ensures.places files told in
    let gives : GivesIndex files names (bytes_at files c.in-Ok.inputs.list.id) c.in-Ok-judge.judged =
    gives_of files names c.in-Ok.inputs.list.id c.in-Ok.inputs.source.id c.in-Ok.inputs.list.size c.in-Ok-judge.judged places.0 places.1 (c.in-Ok.ensures.sizes files told).0 c.in-Ok.ensures.within (c.in-Ok-judge.ensures.judged files after) in (
      c.in-Ok-runs_of.runs.items,
      record {
        text = bytes_at files c.in-Ok.inputs.list.id;
        packets = gives.indexed.packets;
        slices = slices_view c.in-Ok-list_of.items.slices.items;
        read = read_of files names (bytes_at files c.in-Ok.inputs.list.id) c.in-Ok-judge.judged gives;
        listed = c.in-Ok-list_of.ensures.listed files later;
        planned = plan_by gives.bytes c.in-Ok-judge.judged gives.indexed (slices_view c.in-Ok-list_of.items.slices.items) ∙ c.in-Ok-runs_of.ensures.runs;
      },
      rw c.deref.ensures.value at c.in-Ok-text_of.ensures,
    )
