use Rattle.boundaries.proofs.walk.+change_leaf.Given as goal

-- A child's subtree is lower.
abbrev pub decreases-change_leaf : goal.decreases-change_leaf
decreases-change_leaf g l = l.height
