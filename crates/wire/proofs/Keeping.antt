-- The tables of a frame are those of its batch, once each single key has its end.
use Rattle.std.proofs.Common.{◌≡◌, ℕ, suc, ◌+◌, ◌-◌, ◌≤◌, List, [], ◌∷◌, length, map, inl, inr, refl, ap, sym, subst, ◌∙◌, arith}
use Rattle.std.specs.List.{All, AllByRecursion, slice_range}
use Rattle.std.proofs.lemmas.List.Elements.{All-nil, All-cons}
use Rattle.keyspace.specs.declared.span.Span.{Span}
use Rattle.keyspace.specs.declared.row.Row.{Row}
use Rattle.keyspace.specs.storage.Fields.{TxnLimits}
use Rattle.keyspace.specs.storage.Tables.{range_of_span, txn_of_row, txns_from, LiesWithin, AreRows, AreTables}
use Rattle.wire.specs.declared.tables.FrameTables.{FrameTables}
use Rattle.wire.specs.Fields.{RangeFields, TxnFields}
use Rattle.wire.specs.Spelling.{RangeHolds, TxnHolds, BatchHolds}
use Rattle.wire.specs.Lying.{range_read, txn_read, txns_read, batch_of_tables, IsBetween, AreApart}
use Rattle.wire.proofs.Sealing.{apart_rises}
use Rattle.wire.proofs.Appending.{map_part}

span_within : (from : ℕ) (span : Span) (to bound : ℕ) → IsBetween from span to → to + 1 ≤ bound → LiesWithin bound span
span_within from span to bound h le =
    elim h.keys [
      | inl one ↦ record {
        begin = omega (arith, one.2, le);
        end = omega (arith, one.0, one.1, one.2, le);
      }
      | inr two ↦ record { begin = omega (arith, two.0, two.1, le); end = omega (arith, two.1, le) }
    ]

pub spans_within : (from : ℕ) (spans : List Span) (to bound : ℕ) → AreApart from spans to → to + 1 ≤ bound
    → All (LiesWithin bound) spans
spans_within from [] to bound h le = All-nil (LiesWithin bound)
spans_within from (span ∷ spans) to bound h le =
    let here : h.0 + 1 ≤ bound = omega (arith, apart_rises h.0 spans to h.2, le) in
    All-cons (LiesWithin bound) span spans (span_within from span h.0 bound h.1 here)
    (spans_within h.0 spans to bound h.2 le)

part_sealed : (frame buffer : List ℕ) (spans : List Span) (from to : ℕ)
    → map (range_of_span buffer) spans ≡ map (range_read frame) spans
    → map (range_of_span buffer) (slice_range spans from to) ≡ map (range_read frame) (slice_range spans from to)
part_sealed frame buffer spans from to reported =
    map_part (range_of_span buffer) spans from to ∙ ap (λ (l : List RangeFields). slice_range l from to) reported
    ∙ sym (map_part (range_read frame) spans from to)

txn_sealed : (frame buffer : List ℕ) (spans : List Span) (from : ℕ) (row : Row)
    → map (range_of_span buffer) spans ≡ map (range_read frame) spans
    → txn_of_row buffer spans from row ≡ txn_read frame spans from row
txn_sealed frame buffer spans from row reported =
    let reads = part_sealed frame buffer spans from (row.end - row.writes) reported in
    let writes = part_sealed frame buffer spans (row.end - row.writes) row.end reported in
    λ i. record { snapshot = row.snapshot; marked = row.marked; reads = reads i; writes = writes i }

pub txns_sealed : (frame buffer : List ℕ) (spans : List Span) (from : ℕ) (rows : List Row)
    → map (range_of_span buffer) spans ≡ map (range_read frame) spans
    → txns_from buffer spans from rows ≡ txns_read frame spans from rows
txns_sealed frame buffer spans from [] reported = refl
txns_sealed frame buffer spans from (row ∷ rows) reported =
    let first = txn_sealed frame buffer spans from row reported in
    let others = txns_sealed frame buffer spans row.end rows reported in
    λ i. first i ∷ others i

pub length-read : (frame : List ℕ) (spans : List Span) (from : ℕ) (rows : List Row)
    → length (txns_read frame spans from rows) ≡ length rows
length-read frame spans from [] = refl
length-read frame spans from (row ∷ rows) = ap suc (length-read frame spans row.end rows)

all_hold : {X : Type 0} (P : X → Type 0) (xs : List X) → AllByRecursion P xs → All P xs
all_hold P [] h = All-nil P
all_hold P (x ∷ xs) h = All-cons P x xs h.0 (all_hold P xs h.1)

-- the limits of a transaction of a frame are those of any transaction
limits : (txns : List TxnFields) → AllByRecursion TxnHolds txns → All TxnLimits txns
limits [] h = All-nil TxnLimits
limits (txn ∷ txns) h =
    All-cons TxnLimits txn txns (record {
      snapshot = h.0.snapshot;
      few_reads = h.0.few_reads;
      few_writes = h.0.few_writes;
      reads = all_hold RangeHolds txn.reads h.0.reads;
      writes = all_hold RangeHolds txn.writes h.0.writes;
    }) (limits txns h.1)

pub are_tables : (frame buffer : List ℕ) (tables : FrameTables) → AreApart 0 tables.spans.items (length frame)
    → length buffer ≡ length frame + 1
    → map (range_of_span buffer) tables.spans.items ≡ map (range_read frame) tables.spans.items
    → BatchHolds (batch_of_tables frame tables) → AreTables buffer tables.spans.items tables.rows.items
are_tables frame buffer tables apart more reported holds =
    let spans = tables.spans.items in
    let rows = tables.rows.items in
    record {
      spans_within = spans_within 0 spans (length frame) (length buffer) apart (omega (arith, more));
      rows_fit = subst (AreRows 0 rows) tables.spans.ok.0 tables.rows_fit;
      holds = subst (λ (txns : List TxnFields). All TxnLimits txns) (sym (txns_sealed frame buffer spans 0 rows reported))
          (limits (txns_read frame spans 0 rows) holds.txns);
    }
