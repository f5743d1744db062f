use Rattle.std.proofs.Common.{rules, arith, ◌≡◌, ◌≤◌, ◌+◌, List, [], ◌∷◌, ◌++◌, length, map, FitsSigned, w64, refl, sym, ap, ◌∙◌, subst, subst₂}
use Rattle.std.proofs.lemmas.Int.{to_z-of_z}
use Rattle.std.proofs.lemmas.List.{length-map}
use Rattle.keyspace.specs.declared.row.Row.{Row}
use Rattle.keyspace.specs.storage.Fields.{TxnLimits}
use Rattle.keyspace.specs.storage.Putting.{ArePut}
use Rattle.keyspace.specs.storage.Tables.{txns_of_tables, AreTables}
use Rattle.keyspace.proofs.callers.Putting.{length-put, few_spans, txn_put}
use Rattle.archcaraway_c.specs.BatchObject.{range_given, txn_given, span_after}
use Rattle.archcaraway_c.proofs.Appending.{hold_given, put_first, put_second}
use Rattle.archcaraway_c.proofs.batch_tables.BatchTables.append.Goals as goal
use Rattle.archcaraway_c.proofs.batch_tables.BatchTables.append.Goals.{Start, In_ok-push_ranges, In_ok-push_ranges-2, In_ok-push}

few : (c : Start) → length c.args.self.now.spans.items ≤ 8386560
few c =
    let tables = c.args.self.now in
    omega (arith, c.requires.few, tables.rows.ok.0, few_spans tables.buffer.items tables.spans.items tables.rows.items c.requires.tables)

reads_put : (c : In_ok-push_ranges)
    → ArePut c.args.self.now.buffer.items c.args.self.now.spans.items (map (range_given c.args.keys.now) c.args.reads.now)
    c.extend_from_slice.new.self.items c.push_ranges.new.spans.items
reads_put c =
    let old = c.args.self.now in
    let keys = c.args.keys.now in
    let reads = c.args.reads.now in
    let before : c.len-before.result ≡ length old.buffer.items = c.len-before.ensures ∙ old.buffer.ok.0 in
    let pushed = c.in_ok-push_ranges.ensures.pushed ∙ ap (λ n. old.spans.items ++ map (span_after n) reads) before in
    subst₂ (λ bytes spans. ArePut old.buffer.items old.spans.items (map (range_given keys) reads) bytes spans)
    (sym c.in_ok-extend_from_slice.ensures.items) (sym pushed)
    (put_first old.buffer.items keys old.spans.items reads c.requires.reads)

writes_put : (c : In_ok-push_ranges-2)
    → ArePut c.extend_from_slice.new.self.items c.push_ranges.new.spans.items
    (map (range_given c.args.keys.now) c.args.writes.now)
    c.extend_from_slice.new.self.items c.push_ranges-2.new.spans.items
writes_put c =
    let old = c.args.self.now in
    let keys = c.args.keys.now in
    let writes = c.args.writes.now in
    let spans₁ = c.push_ranges.new.spans.items in
    let before : c.len-before.result ≡ length old.buffer.items = c.len-before.ensures ∙ old.buffer.ok.0 in
    let pushed = c.in_ok-push_ranges-2.ensures.pushed ∙ ap (λ n. spans₁ ++ map (span_after n) writes) before in
    subst₂ (λ bytes spans. ArePut bytes spans₁ (map (range_given keys) writes) bytes spans)
    (sym c.in_ok-extend_from_slice.ensures.items) (sym pushed)
    (put_second old.buffer.items keys spans₁ writes c.requires.writes)

more_reads : (c : In_ok-push_ranges) → length c.push_ranges.new.spans.items ≤ length c.args.self.now.spans.items + 1024
more_reads c =
    omega (arith, length-put _ _ _ _ _ (reads_put c), length-map c.args.reads.now (range_given c.args.keys.now), c.requires.few_reads)

more_writes : (c : In_ok-push_ranges-2) → length c.push_ranges-2.new.spans.items ≤ length c.push_ranges.new.spans.items + 1024
more_writes c =
    omega (arith, length-put _ _ _ _ _ (writes_put c), length-map c.args.writes.now (range_given c.args.keys.now), c.requires.few_writes)

pub overflow_cast-len : goal.overflow_cast-len
overflow_cast-len c =
    let at = goal.at.overflow_cast-len c in
    let fits : c.len.result ≤ 8388608 =
    omega (arith, few at.Start, more_reads at.In_ok-push_ranges, more_writes at.In_ok-push_ranges-2, c.len.ensures, c.push_ranges-2.new.spans.ok.0) in
    search rules

limits : (c : Start) → TxnLimits (txn_given c.args.snapshot c.args.marked c.args.keys.now c.args.reads.now c.args.writes.now)
limits c =
    let keys = c.args.keys.now in
    record {
      snapshot = c.requires.natural;
      few_reads = rw (length-map c.args.reads.now (range_given keys)) c.requires.few_reads;
      few_writes = rw (length-map c.args.writes.now (range_given keys)) c.requires.few_writes;
      reads = hold_given keys c.args.reads.now c.requires.reads;
      writes = hold_given keys c.args.writes.now c.requires.writes;
    }

all_put : (c : In_ok-push)
    → AreTables c.extend_from_slice.new.self.items c.push_ranges-2.new.spans.items c.push.new.self.items
    × (txns_of_tables c.extend_from_slice.new.self.items c.push_ranges-2.new.spans.items c.push.new.self.items
    ≡ txns_of_tables c.args.self.now.buffer.items c.args.self.now.spans.items c.args.self.now.rows.items
    ++ txn_given c.args.snapshot c.args.marked c.args.keys.now c.args.reads.now c.args.writes.now ∷ [])
all_put c =
    let at = goal.at.returns-clause-tables c in
    let old = c.args.self.now in
    let keys = c.args.keys.now in
    let writes = c.args.writes.now in
    let txn = txn_given c.args.snapshot c.args.marked keys c.args.reads.now writes in
    let buffer₁ = c.extend_from_slice.new.self in
    let spans₁ = c.push_ranges.new.spans in
    let spans₂ = c.push_ranges-2.new.spans in
    let fits : FitsSigned w64 c.args.snapshot = search rules in
    subst (λ (rows : List Row). AreTables buffer₁.items spans₂.items rows
    × (txns_of_tables buffer₁.items spans₂.items rows ≡ txns_of_tables old.buffer.items old.spans.items old.rows.items ++ txn ∷ []))
    (sym c.in_ok-push.ensures.items)
    (txn_put old.buffer.items buffer₁.items buffer₁.items old.spans.items spans₁.items spans₂.items old.rows.items _
    txn c.requires.tables (limits at.Start) (reads_put at.In_ok-push_ranges) (writes_put at.In_ok-push_ranges-2)
    (to_z-of_z w64 c.args.snapshot fits) refl (sym (length-map writes (range_given keys)))
    (c.len.ensures ∙ spans₂.ok.0))

pub returns-clause-tables : goal.returns-clause-tables
returns-clause-tables c = (all_put c).0

pub returns-clause-reported : goal.returns-clause-reported
returns-clause-reported c = (all_put c).1
