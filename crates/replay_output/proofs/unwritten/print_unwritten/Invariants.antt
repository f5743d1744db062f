use Rattle.std.proofs.Common.{◌≡◌, take}
use Rattle.std.specs.Io.KnownBytes.{Appends}
use Rattle.replay_output.specs.Unwritten.{unwritten_lines}
use Rattle.replay_output.proofs.unwritten.print_unwritten.Given as goal

abbrev pub invariant-loop-proxy : goal.invariant-loop-proxy
invariant-loop-proxy g l = record {
  text : Appends (g.W.Sink.given l.initial.error) (g.W.Sink.given l.error) (unwritten_lines (take l.proxy l.unwritten));
  ok : g.W.Sink.failures l.error ≡ g.W.Sink.failures l.initial.error;
}
