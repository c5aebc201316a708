use Rattle.thr_setup.proofs.trees.+counting_up.Given as goal

abbrev pub decreases-counting_up : goal.decreases-counting_up
decreases-counting_up l = l.width
