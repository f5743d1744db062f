use Rattle.std.proofs.Common.{rules, arith, ◌≡◌, ◌+◌, ◌-◌, ◌≤◌, ◌<◌, List, length, map, take, slice_get, FitsSigned, w64, sym, ap, ◌∙◌, subst, refl}
use Rattle.std.specs.Prelude.{◌≤ℤ◌, pos}
use Rattle.std.proofs.lemmas.Int.{to_z-of_z}
use Rattle.std.proofs.lemmas.List.{length-map}
use Rattle.keyspace.specs.declared.row.Row.{Row}
use Rattle.keyspace.specs.storage.BatchRanges.{ranges_in}
use Rattle.keyspace.specs.storage.Fields.{range_fields, TxnLimits}
use Rattle.keyspace.specs.storage.Tables.{range_of_span, txn_of_row, AreRows}
use Rattle.keyspace.proofs.RangesReported.{part_reported}
use Rattle.keyspace.proofs.RowsInTurn.{row_at}
use Rattle.keyspace.proofs.TablesRanges.{ranges_reported}
use Rattle.keyspace.proofs.TablesTxns.{length-txns, limits_at, txn_at}
use Rattle.keyspace.proofs.txns.Txns.txn.Goals as goal
use Rattle.keyspace.proofs.txns.Txns.txn.Goals.{After-self, After-index-row, After-first_span-begin, After-ranges-ranges}

within_rows : (c : After-self) → c.args.index < length c.self.inside.rows.items
within_rows c =
    let tables = c.self.inside in
    omega (arith, ap length c.self.view_is, length-txns tables.buffer.items tables.spans.items tables.rows.items tables.tables.holds)

before : (c : After-first_span-begin) → AreRows 0 (take c.args.index c.self.inside.rows.items) c.first_span-begin.result
before c =
    subst (λ (rows : List Row). AreRows 0 (take c.args.index rows) c.first_span-begin.result) c.deref.ensures.value
    c.first_span-begin.ensures.first

row_of : (c : After-first_span-begin) → c.args.index < length c.self.inside.rows.items
    → (c.first_span-begin.result + c.index-row.result.now.writes ≤ c.index-row.result.now.end)
    × (c.index-row.result.now.end ≤ length c.self.inside.spans.items)
row_of c within =
    let tables = c.self.inside in
    row_at 0 tables.rows.items (length tables.spans.items) c.args.index c.first_span-begin.result c.index-row.result.now
    c.index-row.result.now tables.tables.rows_fit (before c) within c.index-row.ensures

limits_of : (c : After-first_span-begin) → c.args.index < length c.self.inside.rows.items
    → TxnLimits (txn_of_row c.self.inside.buffer.items c.self.inside.spans.items c.first_span-begin.result c.index-row.result.now)
limits_of c within =
    let tables = c.self.inside in
    limits_at tables.buffer.items tables.spans.items tables.rows.items tables.tables.holds c.args.index c.first_span-begin.result
    c.index-row.result.now (before c) within c.index-row.ensures

reported : (c : After-ranges-ranges)
    → map range_fields c.ranges-ranges.result ≡ map (range_of_span c.self.inside.buffer.items) c.self.inside.spans.items
reported c =
    let tables = c.self.inside in
    ap (map range_fields) (c.ranges-ranges.ensures.ranges ∙ ap ranges_in (sym c.self.view_is))
    ∙ ranges_reported tables.buffer.items tables.spans.items tables.rows.items tables.tables tables.tables.holds

length-ranges : (c : After-ranges-ranges) → length c.ranges-ranges.result ≡ length c.self.inside.spans.items
length-ranges c =
    sym (length-map c.ranges-ranges.result range_fields) ∙ ap length (reported c)
    ∙ length-map c.self.inside.spans.items (range_of_span c.self.inside.buffer.items)

pub index-row-requires : goal.index-row-requires
index-row-requires c = omega (arith, within_rows c, c.self.inside.rows.ok.0)

pub first_span-begin-requires-clause-within : goal.first_span-begin-requires-clause-within
first_span-begin-requires-clause-within c =
    let at = goal.at.first_span-begin-requires-clause-within c in
    subst (λ (rows : List Row). c.args.index < length rows) (sym c.deref.ensures.value) (within_rows at.After-self)

pub overflow_sub-middle : goal.overflow_sub-middle
overflow_sub-middle c =
    let at = goal.at.overflow_sub-middle c in
    let row = row_of at.After-first_span-begin (within_rows at.After-self) in
    omega (arith, row.0)

pub slice-requires-clause-ordered : goal.slice-requires-clause-ordered
slice-requires-clause-ordered c =
    let at = goal.at.slice-requires-clause-ordered c in
    let row = row_of at.After-first_span-begin (within_rows at.After-self) in
    omega (arith, row.0)

pub slice-requires-clause-within : goal.slice-requires-clause-within
slice-requires-clause-within c =
    let at = goal.at.slice-requires-clause-within c in
    let row = row_of at.After-first_span-begin (within_rows at.After-self) in
    omega (arith, row.0, row.1, length-ranges at.After-ranges-ranges)

pub slice-requires-2-clause-ordered : goal.slice-requires-2-clause-ordered
slice-requires-2-clause-ordered c =
    let at = goal.at.slice-requires-2-clause-ordered c in
    let row = row_of at.After-first_span-begin (within_rows at.After-self) in
    omega (arith, row.0)

pub slice-requires-2-clause-within : goal.slice-requires-2-clause-within
slice-requires-2-clause-within c =
    let at = goal.at.slice-requires-2-clause-within c in
    let row = row_of at.After-first_span-begin (within_rows at.After-self) in
    omega (arith, row.0, row.1, length-ranges at.After-ranges-ranges)

pub invariant_of-result : goal.invariant_of-result
invariant_of-result c =
    let at = goal.at.invariant_of-result c in
    let tables = c.self.inside in
    let row = c.index-row.result.now in
    let fits : FitsSigned w64 row.snapshot = search rules in
    let limits = limits_of at.After-first_span-begin (within_rows at.After-self) in
    let begin = c.first_span-begin.result in
    let middle = row.end - row.writes in
    let reads = part_reported tables.buffer.items tables.spans.items c.ranges-ranges.result c.slice.result begin middle
    (reported at.After-ranges-ranges) c.slice.ensures.ranges in
    let writes = part_reported tables.buffer.items tables.spans.items c.ranges-ranges.result c.slice-2.result middle row.end
    (reported at.After-ranges-ranges) c.slice-2.ensures.ranges in (
      subst (λ snapshot. pos 0 ≤ℤ snapshot) (sym (to_z-of_z w64 row.snapshot fits)) limits.snapshot,
      (
        subst (λ n. n ≤ 1024) (sym (ap length reads) ∙ length-map c.slice.result range_fields) limits.few_reads,
        (
          subst (λ n. n ≤ 1024) (sym (ap length writes) ∙ length-map c.slice-2.result range_fields) limits.few_writes,
          tt,
        ),
      ),
    )

pub returns : goal.returns
returns c =
    let at = goal.at.returns c in
    let tables = c.self.inside in
    let row = c.index-row.result.now in
    let fits : FitsSigned w64 row.snapshot = search rules in
    let begin = c.first_span-begin.result in
    let middle = row.end - row.writes in
    let reads = part_reported tables.buffer.items tables.spans.items c.ranges-ranges.result c.slice.result begin middle
    (reported at.After-ranges-ranges) c.slice.ensures.ranges in
    let writes = part_reported tables.buffer.items tables.spans.items c.ranges-ranges.result c.slice-2.result middle row.end
    (reported at.After-ranges-ranges) c.slice-2.ensures.ranges in
    record {
      txn = ap (λ txns. slice_get txns c.args.index) (sym c.self.view_is)
          ∙ txn_at tables.buffer.items tables.spans.items tables.rows.items tables.tables.holds c.args.index begin row _
          (before at.After-first_span-begin) (within_rows at.After-self) c.index-row.ensures (to_z-of_z w64 row.snapshot fits) refl reads writes;
    }
