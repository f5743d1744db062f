use Rattle.std.proofs.Common.{◌+◌, ◌*◌, ◌-◌}
use Rattle.boundaries.proofs.Words.{FAN_OUT}
use Rattle.boundaries.proofs.unexpired.+count_in.Given as goal

-- down the tree, and along each node
abbrev pub decreases-count_in : goal.decreases-count_in
decreases-count_in l = l.height * (FAN_OUT + 1) + (FAN_OUT - l.index)
