use Rattle.replay_stream.specs.Recorder.{RecorderContinues}
use Rattle.replay_stream.specs.Sinks.{state_by}
use Rattle.replay_stream.proofs.recorder.record_all.Given as goal

abbrev pub invariant-loop : goal.invariant-loop
invariant-loop g l = RecorderContinues (state_by g.W.Sink.given g.W.Sink.failures) l.initial.recorder l.recorder
