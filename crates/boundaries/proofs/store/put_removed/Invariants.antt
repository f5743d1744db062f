use Rattle.std.proofs.Common.{◌≡◌, ◌++◌, take}
use Rattle.boundaries.specs.Node.{keys_of}
use Rattle.boundaries.proofs.store.put_removed.Given as goal

abbrev pub invariant-loop-entry : goal.invariant-loop-entry
invariant-loop-entry l = l.removed.items ≡ l.fn.removed.items ++ keys_of (take l.entry-index l.entries)
