use Rattle.std.proofs.Common.{arith, ◌≡◌, ℕ, List, length, map, take, sym, ap, ◌∙◌, length-take}
use Rattle.std.proofs.lemmas.List.{length-map}
use Rattle.keyspace.specs.declared.txn.Txn.{Txn}
use Rattle.keyspace.specs.declared.span.Span.{Span}
use Rattle.keyspace.specs.declared.row.Row.{Row}
use Rattle.keyspace.specs.storage.Fields.{txn_fields}
use Rattle.keyspace.specs.storage.Tables.{txns_of_tables}
use Rattle.keyspace.proofs.RowsInTurn.{length-reported}
use Rattle.keyspace.proofs.tables.Tables.of.Goals as goal

-- a row for each transaction
as_many : (buffer : List ℕ) (spans : List Span) (rows : List Row) (txns : List Txn)
    → txns_of_tables buffer spans rows ≡ map txn_fields txns → length rows ≡ length txns
as_many buffer spans rows txns reported = sym (length-reported buffer spans 0 rows) ∙ ap length reported ∙ length-map txns txn_fields

pub put-requires-clause-few : goal.put-requires-clause-few
put-requires-clause-few c =
    let tables = c.loop-txn.tables in
    let front = take c.loop-txn.txn-index c.args.txns.now in
    let count = as_many tables.buffer.items tables.spans.items tables.rows.items front c.loop-txn.invariant.reported in
    omega (arith, count, tables.rows.ok.0, length-take c.loop-txn.txn-index c.args.txns.now)

pub returns-clause-count : goal.returns-clause-count
returns-clause-count c =
    let tables = c.loop-txn.tables in
    let front = take c.loop-txn.txn-index c.args.txns.now in
    let count = as_many tables.buffer.items tables.spans.items tables.rows.items front c.loop-txn.invariant.reported in
    omega (arith, count, tables.rows.ok.0, length-take c.loop-txn.txn-index c.args.txns.now)
