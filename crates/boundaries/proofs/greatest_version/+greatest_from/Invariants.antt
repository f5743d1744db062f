use Rattle.boundaries.proofs.greatest_version.+greatest_from.Given as goal

-- A child's subtree is lower.
abbrev pub decreases-greatest_from : goal.decreases-greatest_from
decreases-greatest_from l = l.height
