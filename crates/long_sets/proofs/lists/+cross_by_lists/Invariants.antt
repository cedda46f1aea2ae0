use Rattle.long_sets.proofs.lists.+cross_by_lists.Given as goal

abbrev pub decreases-cross_by_lists : goal.decreases-cross_by_lists
decreases-cross_by_lists l = l.tries
