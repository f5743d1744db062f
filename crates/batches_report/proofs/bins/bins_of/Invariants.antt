use Rattle.std.proofs.Common.{◌≤ℤ◌, ◌-ℤ◌, All, nat_abs}
use Rattle.batches_report.specs.Bins.{IsBinOf}
use Rattle.batches_report.proofs.Parting.{Part}
use Rattle.batches_report.proofs.bins.bins_of.Given as goal

abbrev pub invariant-loop-bins : goal.invariant-loop-bins
invariant-loop-bins l = record {
  part : Part l.least l.first l.bins.items;
  from : l.least ≤ℤ l.first;
  within : l.first ≤ℤ l.greatest;
  totals : All (IsBinOf l.rows) l.bins.items;
}

abbrev pub decreases-loop-bins : goal.decreases-loop-bins
decreases-loop-bins l = nat_abs (l.greatest -ℤ l.first)
