use Rattle.std.proofs.Common.{◌≡◌, ◌++◌, drop}
use Rattle.checking.specs.Difference.{entry_differences}
use Rattle.checking.proofs.entries.compare_entries.Given as goal

-- the differences so far, and those of what is left
abbrev pub invariant-loop-index : goal.invariant-loop-index
invariant-loop-index l =
    l.differences.items ++ entry_differences l.version l.index (drop l.index l.expected) (drop l.index l.found)
    ≡ l.initial.differences.items ++ entry_differences l.version 0 l.expected l.found
