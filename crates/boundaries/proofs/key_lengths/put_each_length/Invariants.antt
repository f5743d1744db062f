use Rattle.std.proofs.Common.{◌≡◌, take}
use Rattle.boundaries.specs.Stored.{each_length}
use Rattle.boundaries.proofs.key_lengths.put_each_length.Given as goal

abbrev pub invariant-loop-pair : goal.invariant-loop-pair
invariant-loop-pair l = l.each.items ≡ each_length (take l.pair-index l.lengths)
