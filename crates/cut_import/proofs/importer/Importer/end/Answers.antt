use Rattle.std.proofs.Common.{[], refl}
use Rattle.ogg_mux.specs.Muxing.{rest_of}
use Rattle.cut_desk.proofs.GrowingLemmas.{grows_none}
use Rattle.cut_import.proofs.CodeLemmas.{some_none}
use Rattle.cut_import.proofs.importer.Importer.end.Goals as goal

pub returns-in-Err-clause-part : goal.returns-in-Err-clause-part
returns-in-Err-clause-part g c =
    let all = rest_of c.args.self.now.mux [] in
    some_none (g.D.Desk.sees c.args.desk.now) (g.D.Desk.sees c.args.desk.now) c.args.id [] all all (grows_none (g.D.Desk.sees c.args.desk.now) c.args.id) refl
