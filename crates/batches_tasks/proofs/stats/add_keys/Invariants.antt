use Rattle.std.proofs.Common.{◌≡◌, ℕ, List, ◌++◌, length, map, take}
use Rattle.std.specs.List.{flat_map}
use Rattle.batches_tasks.specs.Stats.{keys_of_range, spread_of}
use Rattle.batches_tasks.proofs.stats.add_keys.Given as goal

abbrev pub invariant-loop-index : goal.invariant-loop-index
invariant-loop-index l =
    (before : List ℕ) → l.fn.keys ≡ spread_of before
    → l.keys ≡ spread_of (before ++ map length (flat_map keys_of_range (take l.index l.ranges)))
