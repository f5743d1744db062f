-- How far the sweep goes with a batch. This project's own.
use Rattle.std.specs.Prelude.{◌≡◌, ◌+◌, ◌*◌, ℤ, List, [], ◌∷◌, length, map}
use Rattle.keys.specs.declared.range.Range.{Range}
use Rattle.stepmap.specs.StepMap.{Steps, lengths}
use Rattle.stepmap.specs.Writing.{after_write}
use Rattle.stepmap.specs.Sweeping.{after_sweep}
use Rattle.stepmap.specs.Limit.{after_prepare}
use Rattle.stepmap.specs.Uniting.{Unites}
use Rattle.conflict.specs.ConflictSet.{with_edge}

-- The step map after the ranges were written at the version, in this order.
abbrev pub after_writes : List Range → ℤ → Steps → Steps
after_writes [] version m = m
after_writes (range ∷ ranges) version m = after_writes ranges version (after_write range version m)

-- The step map after room was made for the ranges, and they were written.
abbrev pub with_written : List Range → ℤ → Steps → Steps
with_written ranges version m = after_writes ranges version (after_prepare (map lengths ranges) m)

-- The edge was raised to this one, and ranges that unite the committed ones were written. Then the sweep looked at
-- three boundaries per such range and at ten more, and at no others.
abbrev pub IsPaced : ℤ → ℤ → Steps → Steps → List Range → Type 0
IsPaced edge version before now ranges =
    (united : List Range) × Unites united ranges
    × (now ≡ after_sweep (3 * length united + 10) (with_written united version (with_edge edge before)))
