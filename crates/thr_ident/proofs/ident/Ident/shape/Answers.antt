use Rattle.std.proofs.Common.{refl}
use Rattle.thr_ident.specs.Ident.{header_of}
use Rattle.thr_ident.proofs.ShapeLemmas.{announced}
use Rattle.thr_ident.proofs.ident.Ident.shape.Goals as goal

pub returns-clause-shape : goal.returns-clause-shape
returns-clause-shape c = announced _ (header_of c.args.self.now) refl refl refl
