use Rattle.boundaries.proofs.greatest_version.+greatest_to.Given as goal

-- A child's subtree is lower.
abbrev pub decreases-greatest_to : goal.decreases-greatest_to
decreases-greatest_to l = l.height
