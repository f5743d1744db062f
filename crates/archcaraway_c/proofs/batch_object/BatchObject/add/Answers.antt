use Rattle.std.proofs.Common.{arith, length, ap}
use Rattle.keyspace.proofs.callers.Putting.{length-reported}
use Rattle.archcaraway_c.proofs.Joining.{tables_same}
use Rattle.archcaraway_c.proofs.batch_object.BatchObject.add.Goals as goal
use Rattle.archcaraway_c.proofs.batch_object.BatchObject.add.Goals.{in-Ok, in-Err-put}

pub put-requires-clause-few : goal.put-requires-clause-few
put-requires-clause-few c =
    let tables = c.self.inside.tables in
    omega (
      arith,
      c.room.ensures.room,
      c.if-room-eq0.false,
      tables.rows.ok.0,
      ap length c.self.view_is,
      length-reported tables.buffer.items tables.spans.items 0 tables.rows.items,
    )

pub invariant_of-self : goal.invariant_of-self
invariant_of-self c =
    let tables = c.self.inside.tables in
    elim c.match-put.branch [
      | in-Ok w ↦ (
        w.in-Ok.ensures.tables,
        omega (
          arith,
          w.in-Ok.ensures.count,
          c.room.ensures.room,
          c.if-room-eq0.false,
          tables.rows.ok.0,
          ap length c.self.view_is,
          length-reported tables.buffer.items tables.spans.items 0 tables.rows.items,
        ),
      )
      | in-Err-put w ↦ (
        tables_same _ _ _ _ _ _ w.in-Err-put.ensures.buffer w.in-Err-put.ensures.spans w.in-Err-put.ensures.rows
            c.self.invariant.0,
        omega (
          arith,
          ap length w.in-Err-put.ensures.rows,
          c.put.new.self.rows.ok.0,
          tables.rows.ok.0,
          c.self.invariant.1,
        ),
      )
    ]
