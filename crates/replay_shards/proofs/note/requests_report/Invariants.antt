use Rattle.std.proofs.Common.{◌≡◌, false, take}
use Rattle.std.specs.List.{list_any}
use Rattle.replay_shards.specs.Notes.{requests_report}
use Rattle.replay_shards.proofs.note.requests_report.Given as goal

abbrev pub invariant-loop-index : goal.invariant-loop-index
invariant-loop-index l = list_any requests_report (take l.index l.batch.txns) ≡ false
