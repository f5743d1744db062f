use Rattle.std.proofs.Common.{ℕ, ◌≡◌, ◌≤◌, vec_capacity}
use Rattle.boundaries.specs.Stored.{spare_in}
use Rattle.boundaries.proofs.SweepingOn.{IsSwept}
use Rattle.boundaries.proofs.boundary_list.Boundaries.sweep.Given as goal

-- some of the boundaries that were left are looked at
abbrev pub invariant-loop-left : goal.invariant-loop-left
invariant-loop-left l = record {
  swept : IsSwept l.fn.edge l.fn.cursor.items l.fn.self.boundaries l.count l.left l.before l.cursor.items l.self.boundaries;
  capacity : vec_capacity l.fn.cursor ≤ vec_capacity l.cursor;
  spare : (size : ℕ) → spare_in l.fn.self size ≤ spare_in l.self size;
  room : l.self.room ≡ l.fn.self.room;
}

abbrev pub decreases-loop-left : goal.decreases-loop-left
decreases-loop-left l = l.left
