use Rattle.src_index.proofs.SourceLemmas.{still_loaded}
use Rattle.src_index.proofs.tests.again.gathered.Goals as goal

pub packet-requires-clause-made : goal.packet-requires-clause-made
packet-requires-clause-made g c = still_loaded (g.D.Desk.sees c.args.desk.now) (g.D.Desk.sees c.load.new.desk) c.args.id c.in-Ok.source c.load.ensures.kept c.in-Ok.ensures.loaded
