use Rattle.std.proofs.Common.{◌≡◌, ◌++◌, map, take}
use Rattle.archcaraway_c.specs.Moving.{row_moved}
use Rattle.archcaraway_c.proofs.appended_tables.push_rows.Given as goal

abbrev pub invariant-loop-row : goal.invariant-loop-row
invariant-loop-row l =
    l.rows.items ≡ l.initial.rows.items ++ map (row_moved l.before) (take l.row-index l.others)
