use Rattle.std.proofs.Crossing.{crosses}
use Rattle.std.proofs.option.Option.TheSendSync as option
use denote.Param.Send.{IsSend, AllSend, sendable, param_send, struct_send, recorded_send}
use Rattle.replay_workers.proofs.threads.start.Lts.{arg-2-3}
use denote.Struct.Declared.{shape}
use Rattle.keyspace.proofs.batch.Batch.TheSendSync as batch
use Rattle.keyspace.proofs.reply.Reply.TheSendSync as reply
use Rattle.wire.proofs.error.WireError.TheSendSync as fault
use Rattle.resolver.proofs.client.Client.TheSendSync as client
use Rattle.replay_output.specs.contracts.line.Line as Line
use Rattle.replay_workers.specs.contracts.ends.MostUnanswered as MostUnanswered
use Rattle.replay_workers.specs.contracts.worker.Finished as Finished
use Rattle.replay_workers.proofs.threads.start.Goals as goal

-- a line goes to any thread, its snapshot too
line_fields_send : AllSend (shape Line.the_type).fields
line_fields_send = (
  search (sendable, crosses) depth 20,
  (
    search (sendable, crosses) depth 20,
    (
      search (sendable, crosses) depth 20,
      (search (sendable, crosses, reply.the_send, option.the_field_send) depth 20, tt),
    ),
  ),
)

line_field_send : IsSend (Line.the_field).row
line_field_send = struct_send (shape Line.the_type) line_fields_send

line_send : IsSend Line.the_row
line_send = search (recorded_send, line_field_send) depth 10

-- so do a count of unanswered batches and the snapshots beside it
most_fields_send : AllSend (shape MostUnanswered.the_type).fields
most_fields_send = (
  search (sendable, crosses) depth 20,
  (search (sendable, crosses) depth 20, (search sendable, (search sendable, tt))),
)

most_field_send : IsSend (MostUnanswered.the_field).row
most_field_send = struct_send (shape MostUnanswered.the_type) most_fields_send

-- the types of the fields of a worker's result
fields_send : AllSend (shape Finished.the_type).fields
fields_send = (
  client.the_field_send,
  (
    search (sendable, crosses, line_send) depth 20,
    (
      search (sendable, crosses, fault.the_send, option.the_field_send) depth 20,
      (
        search sendable,
        (
          search (sendable, crosses, batch.the_send, option.the_field_send) depth 20,
          (most_field_send, tt),
        ),
      ),
    ),
  ),
)

finished_field_send : IsSend (Finished.the_field).row
finished_field_send = struct_send (shape Finished.the_type) fields_send

pub spawn_with-requires-send-T : goal.spawn_with-requires-send-T
spawn_with-requires-send-T g c κs within =
    let premise : IsSend (arg-2-3 g.row.B g.row.G g.row.R g.B.laws g.G.laws g.R.laws g.R.copy g.B.Batches g.B.Batches-dict g.G.Gatekeeper g.G.Gatekeeper-dict g.G.ShareKeeper g.G.ShareKeeper-dict g.R.Threads g.R.Threads-dict g.R.Wait g.R.Wait-dict g.R.Clone g.R.Clone-dict g.B.Destruct-dict g.G.Destruct-dict κs) = search (sendable, crosses, finished_field_send) depth 20 in
    param_send 3 _ premise

pub spawn_with-requires-clause-keeps : goal.spawn_with-requires-clause-keeps
spawn_with-requires-clause-keeps g c κs within worked kept = rw (c.of-2.ensures, c.of.ensures) kept
