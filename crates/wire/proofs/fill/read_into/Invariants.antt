use Rattle.std.proofs.Common.{◌≡◌, ◌≤◌, ◌-◌, length, take}
use Rattle.std.specs.Io.KnownBytes.{Consumes}
use Rattle.wire.proofs.fill.read_into.Given as goal

abbrev pub invariant-loop-count : goal.invariant-loop-count
invariant-loop-count g l =
    (l.count ≤ length l.room)
    × (length l.room ≡ length l.fn.room)
    × Consumes (g.R.Source.remaining l.fn.reader) (g.R.Source.remaining l.reader) (take l.count l.room)
    × (g.R.Source.failures l.reader ≡ g.R.Source.failures l.fn.reader)

abbrev pub decreases-loop-count : goal.decreases-loop-count
decreases-loop-count g l = length l.room - l.count
