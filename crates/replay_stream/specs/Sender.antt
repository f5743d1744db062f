-- What a sender has done. This project's own.
use Rattle.std.specs.Prelude.{◌≡◌, ℕ, true, List, Option}
use Rattle.keyspace.specs.declared.batch.Batch.{Batch}
use Rattle.lane.specs.Lane.{PortView, PortContinues}
use Rattle.replay_output.specs.declared.options.reports.Reports.{Reports}
use Rattle.replay_stream.specs.declared.sender.Sent.{Sent}
use Rattle.replay_workers.specs.Reporting.{SendsFrames}

-- What a sender has done that was given this port, and a reader with these bytes left: it sent the batches that are resolved for those
-- that it read, and has closed the lane.
pub record HasSent (reports : Reports) (bytes : Option (List ℕ)) (given : PortView Batch) (sent : Sent) : Type 0 where
  pub requests : PortContinues given sent.requests
  pub sends : SendsFrames reports bytes given.sent sent.requests.sent sent.fault sent.unsent
  pub closed : sent.requests.closed ≡ true
