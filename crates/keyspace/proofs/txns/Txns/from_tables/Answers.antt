use Rattle.std.proofs.Common.{arith, ℕ, Option, ◌≡◌, ◌⊎◌, ◌+◌, ◌<◌, Bool, List, All, filter, length, refl, sym, ap, ◌∙◌, subst}
use Rattle.std.proofs.lemmas.List.{length-map}
use Rattle.keys.specs.Hash.{AreHashesOf}
use Rattle.keys.specs.Range.{IsSingle}
use Rattle.keys.specs.GapRuns.{AreChosenInOrder, AreRanked, GapRunsView}
use Rattle.keys.specs.Singles.{is_marked, marked_ranges, AreRankedFor, HaveInOrder}
use Rattle.keys.specs.declared.range.Range.{Range}
use Rattle.keys.proofs.callers.GapRuns.{among_within}
use Rattle.keyspace.specs.storage.BatchRanges.{is_write_in, ranges_in, writes_in}
use Rattle.keyspace.specs.storage.Fields.{range_fields, txns_with, TxnLimits}
use Rattle.keyspace.specs.storage.RowMarks.{marks_of_rows}
use Rattle.keyspace.specs.storage.Tables.{range_of_span, txns_of_tables, AreTables}
use Rattle.keyspace.specs.declared.row.Row.{Row}
use Rattle.keyspace.specs.declared.span.Span.{Span}
use Rattle.keyspace.specs.declared.txn.Txn.{Txn}
use Rattle.keyspace.proofs.FieldsBack.{fields_of_txns}
use Rattle.keyspace.proofs.TablesRanges.{spans_hold, few_spans, ranges_are}
use Rattle.keyspace.proofs.WriteMarks.{length-marks, picked_reported, writes_in_order}
use Rattle.keyspace.proofs.txns.Txns.from_tables.Goals.{After-new-ranges, In_ok-written}
use Rattle.keyspace.proofs.txns.Txns.from_tables.Goals as goal

pub new-ranges-requires-clause-holds : goal.new-ranges-requires-clause-holds
new-ranges-requires-clause-holds c =
    rw (c.deref.ensures.value, c.deref-2.ensures.value)
    (spans_hold c.args.buffer.items c.args.spans.items c.args.rows.items c.requires.tables)

-- there are as many ranges as spans
count : (c : After-new-ranges) → length c.new-ranges.result ≡ length c.args.spans.items
count c =
    sym (length-map c.new-ranges.result range_fields) ∙ ap length c.new-ranges.ensures.reported
    ∙ length-map c.deref-2.result.now (range_of_span c.deref.result.now) ∙ ap length c.deref-2.ensures.value

-- and as many marks
marks : (c : In_ok-written) → length c.in_ok-written.written.items ≡ length c.args.spans.items
marks c = omega (
  arith,
  ap length c.in_ok-written.ensures.marks,
  ap (λ (rows : List Row). length (marks_of_rows rows)) c.deref-3.ensures.value,
  length-marks 0 c.args.rows.items (length c.args.spans.items) c.requires.tables.rows_fit,
)

pub for_written-requires : goal.for_written-requires
for_written-requires c =
    let at = goal.at.for_written-requires c in
    let few = few_spans c.args.buffer.items c.args.spans.items c.args.rows.items c.requires.tables in
    let as_many = count at.After-new-ranges in
    record {
      few = omega (arith, as_many, few, c.args.rows.ok.0);
      hashes = subst (AreHashesOf c.new-ranges.result) (sym c.deref-4.ensures.value) c.in_ok-hashes.ensures.hashes;
      each = ap length c.deref-5.ensures.value ∙ marks at.In_ok-written ∙ sym as_many;
    }

pub list_writes-requires : goal.list_writes-requires
list_writes-requires c =
    let at = goal.at.list_writes-requires c in
    let as_many = count at.After-new-ranges in
    let marked = marks at.In_ok-written in
    record {
      within = λ k d within.
          let inside = among_within _ c.new-ranges.result c.in_ok-ranks.order.items c.in_ok-ranks.ensures.order k d within in
          omega (arith, inside, as_many, marked, ap length c.deref-6.ensures.value);
    }

-- what is kept with the tables
module _ (buffer : List ℕ) (spans : List Span) (rows : List Row) (tables : AreTables buffer spans rows)
    (holds : All TxnLimits (txns_of_tables buffer spans rows)) where
  abbrev txns : List Txn
  txns = txns_with (txns_of_tables buffer spans rows) holds

  kept : (ranges : List Range) (written : List Bool) (ranks : GapRunsView) (order writes : List ℕ) (hashes : List (Option ℕ))
      → ranges ≡ ranges_in txns → written ≡ marks_of_rows rows → AreRankedFor (marked_ranges written ranges) ranges ranks
      → AreRanked ranges ranks ⊎ All IsSingle ranges → HaveInOrder (is_marked written) ranges order
      → writes ≡ filter (is_marked written) order → AreHashesOf ranges hashes
      → AreRankedFor (writes_in txns) (ranges_in txns) ranks
      × (AreRanked (ranges_in txns) ranks ⊎ All IsSingle (ranges_in txns))
      × AreChosenInOrder (is_write_in txns) (ranges_in txns) writes × AreHashesOf (ranges_in txns) hashes
  kept ranges written ranks order writes hashes same marked ranked exact in_order filtered hashed = (
    subst (λ (rs : List Range). AreRankedFor (writes_in txns) rs ranks) same
        (subst (λ (ws : List Range). AreRankedFor ws ranges ranks)
        (picked_reported buffer spans rows tables holds written ranges marked same) ranked),
    subst (λ (rs : List Range). AreRanked rs ranks ⊎ All IsSingle rs) same exact,
    writes_in_order buffer spans rows tables holds written ranges order order writes marked same refl in_order filtered,
    subst (λ (rs : List Range). AreHashesOf rs hashes) same hashed,
  )

pub invariant_of-result-2 : goal.invariant_of-result-2
invariant_of-result-2 c =
    let ranges = c.new-ranges.result in
    let order = c.in_ok-ranks.order.items in
    let written = c.in_ok-written.written.items in
    kept c.args.buffer.items c.args.spans.items c.args.rows.items c.requires.tables _ ranges written c.in_ok-ranks.ranks
    order c.in_ok-write_order.write_order.items c.in_ok-hashes.hashes.items
    (ranges_are c.args.buffer.items c.args.spans.items c.args.rows.items c.requires.tables _ c.deref.result.now
    c.deref-2.result.now ranges c.deref.ensures.value c.deref-2.ensures.value c.new-ranges.ensures.reported)
    (c.in_ok-written.ensures.marks ∙ ap marks_of_rows c.deref-3.ensures.value)
    (subst (λ (ms : List Bool). AreRankedFor (marked_ranges ms ranges) ranges c.in_ok-ranks.ranks) c.deref-5.ensures.value
    c.in_ok-ranks.ensures.ranked)
    c.in_ok-ranks.ensures.exact
    (subst (λ (ms : List Bool). HaveInOrder (is_marked ms) ranges order) c.deref-5.ensures.value c.in_ok-ranks.ensures.order)
    (c.in_ok-write_order.ensures.writes ∙ ap (λ (ms : List Bool). filter (is_marked ms) order) c.deref-6.ensures.value)
    c.in_ok-hashes.ensures.hashes

pub returns : goal.returns
returns c = record { fields = fields_of_txns (txns_of_tables c.args.buffer.items c.args.spans.items c.args.rows.items) _ }
