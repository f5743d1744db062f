use Rattle.std.proofs.Common.{◌<◌, ◌≤◌, ◌+◌, ◌-◌, ◌*◌, get_or}
use Rattle.boundaries.proofs.Words.{FAN_OUT}
use Rattle.boundaries.proofs.node.lower_bound.heads_below.Given as goal

-- The block that begins there is among those looked at.
abbrev pub invariant-loop-block : goal.invariant-loop-block
invariant-loop-block l = l.begin + 8 ≤ 8 * l.block

abbrev pub invariant-loop-index : goal.invariant-loop-index
invariant-loop-index l = (l.below ≤ FAN_OUT) × (0 < l.below → get_or l.heads (l.below - 1) 0 < l.head)
