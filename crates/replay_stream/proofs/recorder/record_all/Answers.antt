use Rattle.std.proofs.Common.{refl}
use Rattle.std.specs.Prelude.{None}
use Rattle.replay_stream.specs.declared.recorder.Recorder.{Recorder}
use Rattle.replay_stream.specs.Sinks.{state_by}
use Rattle.replay_stream.proofs.Recording.{has_recorded, recorder_waits}
use Rattle.replay_stream.proofs.recorder.record_all.Goals as goal

pub returns-in-End : goal.returns-in-End
returns-in-End g c =
    let state = state_by g.W.Sink.given g.W.Sink.failures in
    let start : Recorder g.row.W.Denot = record { answers = c.args.answers; out = c.args.out; failure = None } in
    let waits = recorder_waits state start c.loop.recorder c.take.new.self c.loop.invariant c.take.ensures.takes.intake
    c.in-End.ensures.takes.taken in
    record { recorded = has_recorded state start (record c.loop.recorder { answers = c.take.new.self }) refl waits c.in-End.ensures.takes.end }
