use Rattle.std.proofs.Common.{◌≤ℤ◌, All, take}
use Rattle.batches_report.specs.Bins.{IsWithin}
use Rattle.batches_report.proofs.bins.versions_of.Given as goal

abbrev pub invariant-loop-row : goal.invariant-loop-row
invariant-loop-row l = All (IsWithin l.least l.greatest) (take l.row-index l.rows) × (l.least ≤ℤ l.greatest)
