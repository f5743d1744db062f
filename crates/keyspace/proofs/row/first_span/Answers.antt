use Rattle.std.proofs.Common.{◌≡◌, ◌+◌, ◌-◌, ◌<◌, ℕ, length, get_or, take, subst, arith}
use Rattle.keyspace.specs.storage.Tables.{AreRows}
use Rattle.keyspace.proofs.RowsInTurn.{no_row, rows_up_to}
use Rattle.keyspace.proofs.row.first_span.Goals as goal

pub returns-else-index-eq0 : goal.returns-else-index-eq0
returns-else-index-eq0 c =
    let rows = c.args.rows.now in
    let here : c.args.index - 1 + 1 ≡ c.args.index = omega arith in
    let within : c.args.index - 1 < length rows = omega arith in
    record {
      first = subst (λ (n : ℕ). AreRows 0 (take n rows) (get_or rows (c.args.index - 1) no_row).end) here
          (rows_up_to 0 rows c.requires.rows.0 (c.args.index - 1) no_row c.requires.rows.1 within);
    }
