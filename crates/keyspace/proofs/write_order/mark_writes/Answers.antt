use Rattle.std.proofs.Common.{◌-◌, ◌++◌, length, get_or, take, replicate, true, false, refl, ap, ◌∙◌, arith}
use Rattle.keyspace.proofs.RowsInTurn.{no_row, row_at}
use Rattle.keyspace.proofs.WriteMarks.{marks_filled}
use Rattle.keyspace.proofs.write_order.mark_writes.Goals as goal

pub overflow_sub-end : goal.overflow_sub-end
overflow_sub-end c =
    let rows = c.args.rows.now in
    let fits = row_at 0 rows c.requires.rows.0 c.loop-row.row-index (length c.loop-row.marks.items)
    (get_or rows c.loop-row.row-index no_row) no_row c.requires.rows.1 c.loop-row.invariant.rows c.loop-row-test.true refl in
    omega (arith, fits.0)

pub loop-row-preserved : goal.loop-row-preserved
loop-row-preserved c =
    let rows = c.args.rows.now in
    let row = get_or rows c.loop-row.row-index no_row in
    let marks = c.loop-row.marks in
    let half = c.resize.new.self in
    let entire = c.resize-in-loop-row.new.self in
    let middle = row.end - row.writes in
    let first = c.in_ok-resize.ensures.items ∙ ap (λ n. take middle marks.items ++ replicate (middle - n) false) marks.ok.0 in
    let second = c.in_ok-resize-2.ensures.items ∙ ap (λ n. take row.end half.items ++ replicate (row.end - n) true) half.ok.0 in
    let filled = marks_filled rows c.requires.rows.0 c.loop-row.row-index row no_row marks.items half.items entire.items
    c.requires.rows.1 c.loop-row-test.true refl c.loop-row.invariant.marks c.loop-row.invariant.rows first second in
    record { marks = filled.0; rows = filled.1 }
