use Rattle.std.proofs.Common.{◌∙◌, List, ℕ, subst}
use Rattle.cut_import.specs.Importers.{AddsSome}
use Rattle.cut_import.proofs.CodeLemmas.{part_of}
use Rattle.cut_import.proofs.importer.Importer.append.Goals as goal

pub returns-clause-part : goal.returns-clause-part
returns-clause-part g c = subst (λ (t : List ℕ). AddsSome (g.D.Desk.sees c.args.desk.now) (g.D.Desk.sees c.append.new.self) c.args.id t) (c.deref.ensures.value ∙ c.take_bytes-pages.ensures.bytes)
    (part_of (g.D.Desk.sees c.args.desk.now) (g.D.Desk.sees c.append.new.self) c.args.id c.deref.result.now c.in-Err.fault c.in-Err.ensures.appended c.append.ensures.cause.later)
