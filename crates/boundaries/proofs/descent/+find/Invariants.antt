use Rattle.boundaries.proofs.descent.+find.Given as goal

abbrev pub decreases-find : goal.decreases-find
decreases-find l = l.height
