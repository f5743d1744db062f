use Rattle.std.proofs.Common.{◌≡◌}
use Rattle.replay_workers.proofs.Reporting.{asked_to}
use Rattle.replay_workers.proofs.reporting_batches.ask_all.Given as goal

abbrev pub invariant-loop-row : goal.invariant-loop-row
invariant-loop-row l = l.rows ≡ asked_to l.row-index l.initial.rows
