use Rattle.std.proofs.Common.{◌≤◌, ◌-◌, length, vec_capacity}
use Rattle.keys.specs.declared.key.TheConstants.{MAX_KEY_LENGTH}
use Rattle.boundaries.specs.Boundary.{AreBoundaries}
use Rattle.boundaries.specs.Copying.{IsCopiedTo}
use Rattle.boundaries.proofs.boundary_list.Boundaries.copied.Given as goal

-- the boundaries before the one at `from` are copied
abbrev pub invariant-loop-copy : goal.invariant-loop-copy
invariant-loop-copy l = record {
  copied : IsCopiedTo l.from.items l.self.boundaries l.copy.boundaries;
  boundaries : AreBoundaries l.copy.boundaries;
  any_from : MAX_KEY_LENGTH ≤ vec_capacity l.from;
  any_to : MAX_KEY_LENGTH ≤ vec_capacity l.to;
}

abbrev pub decreases-loop-copy : goal.decreases-loop-copy
decreases-loop-copy l = length l.self.boundaries - length l.copy.boundaries
