-- Parts of the versions. This project's own.
use Rattle.std.specs.Prelude.{◌≡◌, ℤ, ◌≤ℤ◌, List, count_by}
use Rattle.batches_report.specs.Totals.{is_between, rows_between, totals_of}
use Rattle.batches_report.specs.declared.bins.Bin.{Bin}
use Rattle.batches_report.specs.declared.row.TxnRow.{TxnRow}

-- the bin has what the batches of its versions add up to
abbrev pub IsBinOf : List TxnRow → Bin → Type 0
IsBinOf rows bin = bin.totals ≡ totals_of (rows_between bin.first bin.last rows)

-- the batch is in one of the bins
abbrev pub IsInOne : List Bin → TxnRow → Type 0
IsInOne bins row = count_by (λ bin. is_between bin.first bin.last row) bins ≡ 1

-- the version of the batch is one of these
abbrev pub IsWithin : ℤ → ℤ → TxnRow → Type 0
IsWithin least greatest row = (least ≤ℤ row.version) × (row.version ≤ℤ greatest)
