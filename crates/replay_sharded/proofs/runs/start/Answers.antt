use Rattle.std.proofs.Crossing.{crosses}
use Rattle.std.proofs.option.Option.TheSendSync as option
use Rattle.std.proofs.result.Result.TheSendSync as outcome
use denote.Param.Send.{IsSend, AllSend, sendable, param_send, struct_send, recorded_send}
use Rattle.replay_sharded.proofs.runs.start.Lts.{arg-1-3}
use denote.Struct.Declared.{shape}
use Rattle.keyspace.proofs.reply.Reply.TheSendSync as reply
use Rattle.limits.proofs.stop.Stop.TheSendSync as stop
use Rattle.replay_output.proofs.failures.ProxyFailure.TheSendSync as failure
use Rattle.replay_output.proofs.start.StartError.TheSendSync as cause
use Rattle.replay_output.specs.contracts.line.Line as Line
use Rattle.replay_shards.specs.contracts.answered.Answered as Answered
use Rattle.replay_shards.proofs.note.Note.TheSendSync as note
use Rattle.replay_sharded.specs.contracts.shard_run.ShardRun as ShardRun
use Rattle.replay_sharded.proofs.runs.start.Goals as goal

-- a line goes to any thread, its snapshot too
line_fields_send : AllSend (shape Line.the_type).fields
line_fields_send = (
  search (sendable, crosses) depth 20,
  (
    search (sendable, crosses) depth 20,
    (
      search (sendable, crosses) depth 20,
      (search (sendable, crosses, reply.the_send, option.the_field_send) depth 20, tt),
    ),
  ),
)

line_field_send : IsSend (Line.the_field).row
line_field_send = struct_send (shape Line.the_type) line_fields_send

line_send : IsSend Line.the_row
line_send = search (recorded_send, line_field_send) depth 10

-- so does what a shard has answered to a proxy
answered_fields_send : AllSend (shape Answered.the_type).fields
answered_fields_send = (
  search (sendable, crosses, line_send) depth 20,
  (search (sendable, crosses, note.the_send) depth 20, tt),
)

answered_field_send : IsSend (Answered.the_field).row
answered_field_send = struct_send (shape Answered.the_type) answered_fields_send

answered_send : IsSend Answered.the_row
answered_send = search (recorded_send, answered_field_send) depth 10

-- the types of the fields of the result of a shard's thread
fields_send : AllSend (shape ShardRun.the_type).fields
fields_send = (
  search (sendable, crosses, answered_send) depth 20,
  (
    search (sendable, crosses, failure.the_send) depth 20,
    (search sendable, (search (sendable, crosses, stop.the_send, option.the_field_send) depth 20, tt)),
  ),
)

run_field_send : IsSend (ShardRun.the_field).row
run_field_send = struct_send (shape ShardRun.the_type) fields_send

run_send : IsSend ShardRun.the_row
run_send = search (recorded_send, run_field_send) depth 10

pub spawn_with-requires-send-T : goal.spawn_with-requires-send-T
spawn_with-requires-send-T g c κs within =
    let premise : IsSend (arg-1-3 g.row.S g.row.G g.row.R g.S.laws g.G.laws g.R.laws g.R.copy g.S.Source g.S.Source-dict g.G.Gatekeeper g.G.Gatekeeper-dict g.G.ShareKeeper g.G.ShareKeeper-dict g.R.Threads g.R.Threads-dict g.R.Wait g.R.Wait-dict g.R.Clone g.R.Clone-dict g.S.Destruct-dict g.G.Destruct-dict κs) = search (sendable, crosses, run_send, cause.the_send, outcome.the_send, outcome.the_field_send) depth 20 in
    param_send 3 _ premise
