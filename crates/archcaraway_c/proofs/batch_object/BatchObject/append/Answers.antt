use Rattle.std.proofs.Common.{arith, length, ap}
use Rattle.keyspace.proofs.callers.Putting.{length-reported}
use Rattle.archcaraway_c.proofs.Joining.{tables_same}
use Rattle.archcaraway_c.proofs.batch_object.BatchObject.append.Goals as goal
use Rattle.archcaraway_c.proofs.batch_object.BatchObject.append.Goals.{in-Ok, in-Err}

pub put_all-requires-clause-few : goal.put_all-requires-clause-few
put_all-requires-clause-few c =
    let tables = c.self.inside.tables in
    let others = c.other.inside.tables in
    omega (
      arith,
      c.room-room.ensures.room,
      c.len-count.ensures.count,
      c.if-room-count.false,
      tables.rows.ok.0,
      others.rows.ok.0,
      ap length c.self.view_is,
      ap length c.other.view_is,
      length-reported tables.buffer.items tables.spans.items 0 tables.rows.items,
      length-reported others.buffer.items others.spans.items 0 others.rows.items,
    )

pub invariant_of-self : goal.invariant_of-self
invariant_of-self c =
    let tables = c.self.inside.tables in
    let others = c.other.inside.tables in
    elim c.match-put_all.branch [
      | in-Ok w ↦ (
        w.in-Ok.ensures.tables,
        omega (
          arith,
          w.in-Ok.ensures.count,
          c.room-room.ensures.room,
          c.len-count.ensures.count,
          c.if-room-count.false,
          tables.rows.ok.0,
          others.rows.ok.0,
          ap length c.self.view_is,
          ap length c.other.view_is,
          length-reported tables.buffer.items tables.spans.items 0 tables.rows.items,
          length-reported others.buffer.items others.spans.items 0 others.rows.items,
        ),
      )
      | in-Err w ↦ (
        tables_same _ _ _ _ _ _ w.in-Err.ensures.buffer w.in-Err.ensures.spans
            w.in-Err.ensures.rows c.self.invariant.0,
        omega (
          arith,
          ap length w.in-Err.ensures.rows,
          c.put_all.new.self.rows.ok.0,
          tables.rows.ok.0,
          c.self.invariant.1,
        ),
      )
    ]
