use Rattle.std.proofs.Common.{◌≡◌, ◌++◌, take, map}
use Rattle.keys.specs.declared.range.Range.{Range}
use Rattle.shards.specs.Picking.{keys_of}
use Rattle.shards.proofs.balanced_points.put_begins.Given as goal

abbrev pub invariant-loop-index : goal.invariant-loop-index
invariant-loop-index l =
    keys_of l.begins.items ≡ keys_of l.initial.begins.items ++ map (λ (range : Range). range.begin) (take l.index l.ranges)
