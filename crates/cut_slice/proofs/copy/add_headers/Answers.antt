use Rattle.cut_desk.proofs.MakingLemmas.{adds_twice, adds_onto}
use Rattle.cut_slice.proofs.CopyLemmas.{written_two}
use Rattle.cut_slice.proofs.copy.add_headers.Goals as goal

pub returns-in-Ok-add_two-clause-added : goal.returns-in-Ok-add_two-clause-added
returns-in-Ok-add_two-clause-added g c = rw written_two (adds_twice _ _ _ c.args.id _ _ c.in-Ok.ensures.added c.in-Ok-add_two.ensures.added)

pub returns-in-Err-add_two-clause-part : goal.returns-in-Err-add_two-clause-part
returns-in-Err-add_two-clause-part g c = adds_onto _ _ _ c.args.id _ c.in-Ok.ensures.added c.in-Err-add_two.ensures.part
