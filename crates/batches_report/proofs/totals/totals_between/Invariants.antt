use Rattle.std.proofs.Common.{◌≡◌, take}
use Rattle.batches_report.specs.Totals.{rows_between, totals_of}
use Rattle.batches_report.proofs.totals.totals_between.Given as goal

abbrev pub invariant-loop-row : goal.invariant-loop-row
invariant-loop-row l = l.totals ≡ totals_of (rows_between l.first l.last (take l.row-index l.rows))
