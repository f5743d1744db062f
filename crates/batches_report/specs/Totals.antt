-- Sums over batches: of some versions, and of some sizes. This project's own.
use Rattle.std.specs.Prelude.{ℕ, ◌-◌, ◌^◌, ℤ, Bool, ◌&&◌, int_le, nat_le, min, List, length, filter, sum_by}
use Rattle.batches_report.specs.declared.row.TxnRow.{TxnRow}
use Rattle.batches_report.specs.declared.totals.Totals.{Totals}

abbrev pub is_between : ℤ → ℤ → TxnRow → Bool
is_between first last row = int_le first row.version && int_le row.version last

-- the batches with versions from the first to the last one
abbrev pub rows_between : ℤ → ℤ → List TxnRow → List TxnRow
rows_between first last rows = filter (is_between first last) rows

-- the number, or the greatest one of 64 bits
abbrev pub capped_total : ℕ → ℕ
capped_total n = min n (2 ^ 64 - 1)

abbrev pub totals_of : List TxnRow → Totals
totals_of rows = record {
  batches = capped_total (length rows);
  txns = capped_total (sum_by (λ row. row.txns) rows);
  conflicts = capped_total (sum_by (λ row. row.conflicts) rows);
  too_old = capped_total (sum_by (λ row. row.too_old) rows);
  reported = capped_total (sum_by (λ row. row.reported) rows);
}

abbrev pub has_size : ℕ → ℕ → TxnRow → Bool
has_size least most row = nat_le least row.txns && nat_le row.txns most
