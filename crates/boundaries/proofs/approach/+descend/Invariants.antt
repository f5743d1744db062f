use Rattle.boundaries.proofs.approach.+descend.Given as goal

-- A child's subtree is lower.
abbrev pub decreases-descend : goal.decreases-descend
decreases-descend l = l.height
