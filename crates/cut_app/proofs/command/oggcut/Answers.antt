use Rattle.std.proofs.Common.{◌≡◌, Some, ap, sym, refl, map}
use Rattle.vid_desk.specs.Meaning.{Meaning}
use Rattle.cut_report.specs.declared.status.Status.TheVariants.{Done}
use Rattle.cut_app.specs.Forms.{form_of}
use Rattle.cut_app.specs.Views.{form_view}
use Rattle.cut_app.proofs.CauseLemmas.{completes_told, only, only_told}
use Rattle.cut_app.proofs.LeavingLemmas.{before_done, before_told, created_told}
use Rattle.cut_app.proofs.SayingLemmas.{says_told}
use Rattle.cut_app.proofs.command.oggcut.Goals as goal

pub returns-in-Err-clause-complete : goal.returns-in-Err-clause-complete
returns-in-Err-clause-complete g c =
    let form : form_of (map (λ word. word.now) c.args.words.now) ≡ Some (form_view c.in-Some.command) = sym c.in-Some.ensures.form in
    rw form (λ files told. completes_told (g.D.Desk.sees c.args.desk.now) (g.D.Desk.sees c.run.new.desk) (g.D.Desk.sees c.tell-in-Err.new.desk) (form_view c.in-Some.command) files c.in-Err.status c.tell-in-Err.result (c.in-Err.ensures.caused files told)
    (λ e. c.in-Err.ensures.read (rw e refl)) (λ e. c.in-Err.ensures.write (rw e refl)) c.tell-in-Err.ensures.kept c.tell-in-Err.ensures.count c.tell-in-Err.ensures.told)

pub returns-in-Err-clause-said : goal.returns-in-Err-clause-said
returns-in-Err-clause-said g c =
    let form : form_of (map (λ word. word.now) c.args.words.now) ≡ Some (form_view c.in-Some.command) = sym c.in-Some.ensures.form in
    rw form (says_told (g.D.Desk.sees c.args.desk.now) (g.D.Desk.sees c.run.new.desk) (g.D.Desk.sees c.tell-in-Err.new.desk) (form_view c.in-Some.command) c.in-Err.status c.tell-in-Err.result c.in-Err.ensures.stops (λ e. c.in-Err.ensures.done (rw e refl)) c.in-Err.ensures.count (ap {A = Meaning} (λ m. m.outputs) c.tell-in-Err.ensures.kept) c.tell-in-Err.ensures.told)

pub returns-in-Ok-clause-only : goal.returns-in-Ok-clause-only
returns-in-Ok-clause-only g c =
    let form : form_of (map (λ word. word.now) c.args.words.now) ≡ Some (form_view c.in-Some.command) = sym c.in-Some.ensures.form in
    rw form (λ files told. only (Some (form_view c.in-Some.command)) files Done (c.in-Ok.ensures.caused files told))

pub returns-in-Err-clause-only : goal.returns-in-Err-clause-only
returns-in-Err-clause-only g c =
    let form : form_of (map (λ word. word.now) c.args.words.now) ≡ Some (form_view c.in-Some.command) = sym c.in-Some.ensures.form in
    rw form (λ files told. only_told (g.D.Desk.sees c.run.new.desk) (g.D.Desk.sees c.tell-in-Err.new.desk) (form_view c.in-Some.command) files c.in-Err.status c.tell-in-Err.result (c.in-Err.ensures.caused files told) c.tell-in-Err.ensures.told)

pub returns-in-Err-clause-created : goal.returns-in-Err-clause-created
returns-in-Err-clause-created g c =
    let form : form_of (map (λ word. word.now) c.args.words.now) ≡ Some (form_view c.in-Some.command) = sym c.in-Some.ensures.form in
    rw form (λ files told. created_told (g.D.Desk.sees c.args.desk.now) (g.D.Desk.sees c.run.new.desk) (g.D.Desk.sees c.tell-in-Err.new.desk) (form_view c.in-Some.command) files c.tell-in-Err.ensures.kept (c.in-Err.ensures.created files told))

pub returns-in-Ok-clause-before : goal.returns-in-Ok-clause-before
returns-in-Ok-clause-before g c =
    let form : form_of (map (λ word. word.now) c.args.words.now) ≡ Some (form_view c.in-Some.command) = sym c.in-Some.ensures.form in
    rw form (before_done (g.D.Desk.sees c.args.desk.now) (g.D.Desk.sees c.run.new.desk) (form_view c.in-Some.command))

pub returns-in-Err-clause-before : goal.returns-in-Err-clause-before
returns-in-Err-clause-before g c =
    let form : form_of (map (λ word. word.now) c.args.words.now) ≡ Some (form_view c.in-Some.command) = sym c.in-Some.ensures.form in
    rw form (before_told (g.D.Desk.sees c.args.desk.now) (g.D.Desk.sees c.run.new.desk) (g.D.Desk.sees c.tell-in-Err.new.desk) (form_view c.in-Some.command) c.in-Err.status c.tell-in-Err.result c.tell-in-Err.ensures.kept c.tell-in-Err.ensures.told c.in-Err.ensures.before)
