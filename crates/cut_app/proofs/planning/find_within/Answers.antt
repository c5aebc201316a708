use Rattle.std.proofs.Common.{refl, arith}
use Rattle.vid_desk.specs.Meaning.{bytes_at}
use Rattle.cut_desk.proofs.InputLemmas.{contents_is}
use Rattle.cut_app.specs.Plans.{Plan}
use Rattle.cut_app.proofs.PlanLemmas.{list_long, source_long}
use Rattle.cut_app.proofs.planning.find_within.Goals as goal

pub returns-then-inputs-gt-LONGEST_LIST-clause-refused : goal.returns-then-inputs-gt-LONGEST_LIST-clause-refused
returns-then-inputs-gt-LONGEST_LIST-clause-refused g c = λ files told.
    let names : Plan = record { list = c.args.list.now; source = c.args.source.now } in
    let places = c.in-Ok.ensures.places files told in
    let sizes = c.in-Ok.ensures.sizes files told in
    list_long files names (bytes_at files c.in-Ok.inputs.list.id) (bytes_at files c.in-Ok.inputs.source.id) c.in-Ok.inputs.list.size
    (contents_is files c.args.list.now c.in-Ok.inputs.list.id _ places.0 refl) (contents_is files c.args.source.now c.in-Ok.inputs.source.id _ places.1 refl) sizes.0 (omega arith)

pub returns-then-inputs-gt-LONGEST_SOURCE-clause-refused : goal.returns-then-inputs-gt-LONGEST_SOURCE-clause-refused
returns-then-inputs-gt-LONGEST_SOURCE-clause-refused g c = λ files told.
    let names : Plan = record { list = c.args.list.now; source = c.args.source.now } in
    let places = c.in-Ok.ensures.places files told in
    let sizes = c.in-Ok.ensures.sizes files told in
    source_long files names (bytes_at files c.in-Ok.inputs.list.id) (bytes_at files c.in-Ok.inputs.source.id) c.in-Ok.inputs.source.size
    (contents_is files c.args.list.now c.in-Ok.inputs.list.id _ places.0 refl) (contents_is files c.args.source.now c.in-Ok.inputs.source.id _ places.1 refl)
    (omega (arith, sizes.0)) sizes.1 (omega arith)
