use Rattle.std.proofs.Common.{◌≡◌, ◌≤◌}
use Rattle.std.specs.VecDeque.{deque_capacity, deque_len}
use Rattle.explanations.specs.History.{DropsUpTo}
use Rattle.explanations.proofs.history.drop_old.Given as goal

-- of the batches the last ones are left
abbrev pub invariant-loop-processed : goal.invariant-loop-processed
invariant-loop-processed l = record {
  drops : DropsUpTo l.edge l.fn.kept.items l.kept.items;
  fewer : deque_len l.kept ≤ deque_len l.fn.kept;
  capacity : deque_capacity l.kept ≡ deque_capacity l.fn.kept;
}

abbrev pub decreases-loop-processed : goal.decreases-loop-processed
decreases-loop-processed l = deque_len l.kept
