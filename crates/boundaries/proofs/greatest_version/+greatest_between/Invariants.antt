use Rattle.boundaries.proofs.greatest_version.+greatest_between.Given as goal

-- A child's subtree is lower.
abbrev pub decreases-greatest_between : goal.decreases-greatest_between
decreases-greatest_between l = l.height
