use Rattle.std.proofs.Common.{[], ◌∷◌, ◌++◌, length, subst}
use Rattle.std.proofs.lemmas.Result.{err_from_is_err_and}
use Rattle.keyspace.specs.storage.Tables.{AreRows}
use Rattle.keyspace.proofs.callers.Rows.{rows_more}
use Rattle.wire.specs.Lying.{txn_read, txns_read}
use Rattle.wire.specs.Reading.{txn_at, many_at}
use Rattle.wire.proofs.Loop.{continues, ends, is_done}
use Rattle.wire.proofs.Appending.{row_pushed}
use Rattle.wire.proofs.txn.txns_of.Goals as goal

pub returns-in_err-row-clause-reads : goal.returns-in_err-row-clause-reads
returns-in_err-row-clause-reads c =
    let p = err_from_is_err_and c.from_residual-in_err-row.result c.from_residual-in_err-row.ensures.1 in
    rw (p.1, p.2) (ends (txn_at c.args.version) c.in_err-row.field-0.0
    (txns_read c.args.frame.now c.loop.spans.items 0 c.loop.rows.items) c.args.count c.loop.counter c.loop.rest.now
    (many_at (txn_at c.args.version) c.args.count c.args.bytes.now) c.loop-test.true
    c.in_err-row.ensures.reads c.loop.invariant.0)

pub loop-preserved : goal.loop-preserved
loop-preserved c =
    let frame = c.args.frame.now in
    let row = c.in_ok-row.row in
    let old = c.loop.spans.items in
    let new = c.row_of.new.spans.items in
    let rows = c.loop.rows.items in
    let is = c.in_ok-push.ensures.items in
    let reported = c.in_ok-row.ensures in (
      rw (row_pushed frame old new rows c.push.new.self.items row c.loop.invariant.1 reported.front is)
          (continues (txn_at c.args.version)
          (txns_read frame old 0 rows) c.args.count c.loop.counter c.loop.rest.now
          (txn_read frame new (length old) row) c.in_ok-row.after.now
          (many_at (txn_at c.args.version) c.args.count c.args.bytes.now) c.loop-test.true
          reported.reads c.loop.invariant.0),
      rw is (subst (AreRows 0 (rows ++ row ∷ [])) reported.row.1 (rows_more 0 rows (length old) row c.loop.invariant.1 reported.row.0)),
      reported.rest,
      reported.apart,
    )

pub returns-clause-reads : goal.returns-clause-reads
returns-clause-reads c = is_done (txn_at c.args.version)
    (txns_read c.args.frame.now c.loop.spans.items 0 c.loop.rows.items) c.args.count c.loop.counter c.loop.rest.now
    (many_at (txn_at c.args.version) c.args.count c.args.bytes.now) c.loop-test.false c.loop.invariant.0
