use Rattle.std.proofs.Common.{◌≡◌, ◌≤◌, ◌-◌, vec_len}
use Rattle.wire.specs.Filling.{MovesInto}
use Rattle.wire.proofs.fill.fill.Given as goal

abbrev pub invariant-loop-reader : goal.invariant-loop-reader
invariant-loop-reader g l =
    MovesInto (g.R.Source.remaining l.fn.reader) (g.R.Source.remaining l.reader) l.fn.buffer.items l.buffer.items
    × (vec_len l.buffer ≤ l.target)
    × (g.R.Source.failures l.reader ≡ g.R.Source.failures l.fn.reader)

abbrev pub decreases-loop-reader : goal.decreases-loop-reader
decreases-loop-reader g l = l.target - vec_len l.buffer
