use Rattle.std.proofs.Common.{◌≡◌, ◌+◌, ◌-◌, ◌<◌, ℕ, pos, false, length, get_or, take, subst, arith}
use Rattle.keyspace.specs.declared.row.Row.{Row}
use Rattle.keyspace.specs.storage.Tables.{AreRows}
use Rattle.keyspace.proofs.callers.Putting.{rows_up_to}
use Rattle.archcaraway_c.proofs.batch_tables.first_span.Goals as goal

abbrev no_row : Row
no_row = record { snapshot = pos 0; end = 0; writes = 0; marked = false }

pub returns-else-index-eq0 : goal.returns-else-index-eq0
returns-else-index-eq0 c =
    let rows = c.args.rows.now in
    let here : c.args.index - 1 + 1 ≡ c.args.index = omega arith in
    let within : c.args.index - 1 < length rows = omega arith in
    record {
      first = subst (λ (n : ℕ). AreRows 0 (take n rows) (get_or rows (c.args.index - 1) no_row).end) here
          (rows_up_to 0 rows c.requires.rows.0 (c.args.index - 1) no_row c.requires.rows.1 within);
    }
