use Rattle.std.proofs.Common.{◌≡◌}
use Rattle.std.specs.Io.KnownBytes.{Keeps}
use Rattle.wire.proofs.sink.StdSinkSink.flush.Given as goal

abbrev pub invariant-loop : goal.invariant-loop
invariant-loop g l =
    (l.self.failures ≡ l.fn.self.failures)
    × Keeps (g.W.Write.contents l.fn.self.writer) (g.W.Write.contents l.self.writer)
