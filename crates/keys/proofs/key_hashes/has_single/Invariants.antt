use Rattle.std.proofs.Common.{◌≡◌, ◌<◌, ℕ}
use Rattle.std.specs.Prelude.{Some, slice_get}
use Rattle.keys.specs.Range.{IsSingle}
use Rattle.keys.specs.declared.range.Range.{Range}
use Rattle.keys.proofs.key_hashes.has_single.Given as goal

-- no range so far is a single key
abbrev pub invariant-loop-index : goal.invariant-loop-index
invariant-loop-index g l =
    (k : ℕ) (range : Range) → k < l.index → slice_get (g.L.RangeList.ranges l.ranges) k ≡ Some range → ¬ IsSingle range
