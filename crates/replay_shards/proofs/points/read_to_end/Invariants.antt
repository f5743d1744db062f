use Rattle.std.specs.Io.KnownBytes.{Consumes}
use Rattle.replay_shards.proofs.points.read_to_end.Given as goal

abbrev pub invariant-loop : goal.invariant-loop
invariant-loop g l = Consumes (g.S.Source.remaining l.fn.reader) (g.S.Source.remaining l.reader) l.bytes.items
