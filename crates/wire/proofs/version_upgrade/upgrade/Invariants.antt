use Rattle.std.proofs.Common.{◌≡◌}
use Rattle.wire.proofs.NewFrames.{SoFar}
use Rattle.wire.proofs.version_upgrade.upgrade.Given as goal

abbrev pub invariant-loop-count : goal.invariant-loop-count
invariant-loop-count g l =
    SoFar (g.R.Source.remaining l.fn.reader) (g.R.Source.remaining l.reader)
    (g.W.Sink.given l.fn.writer) (g.W.Sink.given l.writer) l.count
    × (g.R.Source.failures l.reader ≡ g.R.Source.failures l.fn.reader)
    × (g.W.Sink.failures l.writer ≡ g.W.Sink.failures l.fn.writer)
