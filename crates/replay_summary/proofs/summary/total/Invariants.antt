use Rattle.std.proofs.Common.{◌≡◌, take}
use Rattle.replay_summary.specs.Summary.{total_of}
use Rattle.replay_summary.proofs.summary.total.Given as goal

abbrev pub invariant-loop-summary : goal.invariant-loop-summary
invariant-loop-summary l = l.total ≡ total_of (take l.summary-index l.summaries)
