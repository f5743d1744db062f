use Rattle.std.proofs.Common.{◌≡◌, ◌≤◌, ◌<◌, ℕ, List}
use Rattle.std.specs.Prelude.{Some, slice_get}
use Rattle.keys.specs.Key.{IsBefore}
use Rattle.shards.proofs.split_points.first_at_most.Given as goal

abbrev pub invariant-loop-index : goal.invariant-loop-index
invariant-loop-index l =
    (i : ℕ) (point : List ℕ) → l.first ≤ i → i < l.index → slice_get l.points i ≡ Some point → IsBefore point l.key
