use Rattle.cut_desk.proofs.GrowingLemmas.{grows_onto, grows_twice}
use Rattle.cut_export.proofs.film.add_both.Goals as goal

pub returns-in-Ok-add-clause-added : goal.returns-in-Ok-add-clause-added
returns-in-Ok-add-clause-added g c = grows_twice _ _ _ c.args.id _ _ c.in-Ok.ensures.added c.in-Ok-add.ensures.added

pub returns-in-Err-add-clause-part : goal.returns-in-Err-add-clause-part
returns-in-Err-add-clause-part g c = grows_onto _ _ _ c.args.id c.args.one.now c.in-Ok.ensures.added c.in-Err-add.ensures.part
