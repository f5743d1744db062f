use Rattle.std.proofs.Common.{◌-◌, ◌<◌, ◌≤◌, ℕ, length, get_or}
use Rattle.boundaries.specs.Node.{entries_of, key_heads_of}
use Rattle.boundaries.proofs.node.Node.tied.Given as goal

abbrev pub invariant-loop-first : goal.invariant-loop-first
invariant-loop-first l =
    record {
      first : l.fn.from ≤ l.first;
      within : l.first ≤ length (entries_of l.self);
      below : (index : ℕ) → l.fn.from ≤ index → index < l.first → get_or (key_heads_of l.self).heads index 0 < l.head;
    }

abbrev pub decreases-loop-first : goal.decreases-loop-first
decreases-loop-first l = l.len - l.first

abbrev pub invariant-loop-end : goal.invariant-loop-end
invariant-loop-end l =
    record { ordered : l.first ≤ l.end; within : l.end ≤ length (entries_of l.self) }

abbrev pub decreases-loop-end : goal.decreases-loop-end
decreases-loop-end l = l.len - l.end
