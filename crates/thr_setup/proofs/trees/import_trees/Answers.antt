use Rattle.thr_setup.proofs.ImportLemmas.{more_trees}
use Rattle.thr_setup.proofs.trees.import_trees.Goals as goal

pub trees-preserved : goal.trees-preserved
trees-preserved c = more_trees c.trees.trees.items c.push.new.self.items c.in_ok-tree.tree c.trees.hti c.in_ok-push.ensures.items c.in_ok-tree.ensures c.trees.invariant
