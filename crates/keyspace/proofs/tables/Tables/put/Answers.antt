use Rattle.std.proofs.Common.{rules, arith, ◌≡◌, [], ◌∷◌, ◌++◌, ◌≤◌, ◌+◌, length, map, FitsSigned, w64, refl, sym, ◌∙◌, subst}
use Rattle.std.proofs.lemmas.Int.{to_z-of_z}
use Rattle.std.proofs.lemmas.List.{length-map}
use Rattle.keyspace.specs.storage.Fields.{range_fields, txn_fields}
use Rattle.keyspace.specs.storage.Putting.{ArePut}
use Rattle.keyspace.specs.storage.Tables.{txns_of_tables, AreTables}
use Rattle.keyspace.proofs.FieldsBack.{limits_of_txn}
use Rattle.keyspace.proofs.Putting.{length-put}
use Rattle.keyspace.proofs.TablesRanges.{few_spans}
use Rattle.keyspace.proofs.TablesPut.{txn_put}
use Rattle.keyspace.proofs.tables.Tables.put.Goals as goal
use Rattle.keyspace.proofs.tables.Tables.put.Goals.{Start, In_ok-put_ranges, In_ok-put_ranges-2, In_ok-push}

few : (c : Start) → length c.args.self.now.spans.items ≤ 8386560
few c =
    let tables = c.args.self.now in
    omega (arith, c.requires.few, tables.rows.ok.0, few_spans tables.buffer.items tables.spans.items tables.rows.items c.requires.tables)

reads_put : (c : In_ok-put_ranges)
    → ArePut c.args.self.now.buffer.items c.args.self.now.spans.items (map range_fields c.args.txn.now.reads)
    c.put_ranges.new.buffer.items c.put_ranges.new.spans.items
reads_put c =
    subst (λ ranges. ArePut c.args.self.now.buffer.items c.args.self.now.spans.items (map range_fields ranges)
    c.put_ranges.new.buffer.items c.put_ranges.new.spans.items) c.as_slice.ensures.items c.in_ok-put_ranges.ensures.put

writes_put : (c : In_ok-put_ranges-2)
    → ArePut c.put_ranges.new.buffer.items c.put_ranges.new.spans.items (map range_fields c.args.txn.now.writes)
    c.put_ranges-2.new.buffer.items c.put_ranges-2.new.spans.items
writes_put c =
    subst (λ ranges. ArePut c.put_ranges.new.buffer.items c.put_ranges.new.spans.items (map range_fields ranges)
    c.put_ranges-2.new.buffer.items c.put_ranges-2.new.spans.items) c.as_slice-2.ensures.items c.in_ok-put_ranges-2.ensures.put

more_reads : (c : In_ok-put_ranges) → length c.put_ranges.new.spans.items ≤ length c.args.self.now.spans.items + 1024
more_reads c =
    omega (arith, length-put _ _ _ _ _ (reads_put c), length-map c.args.txn.now.reads range_fields, c.args.txn.now.few_reads)

more_writes : (c : In_ok-put_ranges-2) → length c.put_ranges-2.new.spans.items ≤ length c.put_ranges.new.spans.items + 1024
more_writes c =
    omega (arith, length-put _ _ _ _ _ (writes_put c), length-map c.args.txn.now.writes range_fields, c.args.txn.now.few_writes)

pub overflow_cast-len : goal.overflow_cast-len
overflow_cast-len c =
    let at = goal.at.overflow_cast-len c in
    let fits : c.len.result ≤ 8388608 =
    omega (arith, few at.Start, more_reads at.In_ok-put_ranges, more_writes at.In_ok-put_ranges-2, c.put_ranges-2.new.spans.ok.0) in
    search rules

all_put : (c : In_ok-push)
    → AreTables c.put_ranges-2.new.buffer.items c.put_ranges-2.new.spans.items c.push.new.self.items
    × (txns_of_tables c.put_ranges-2.new.buffer.items c.put_ranges-2.new.spans.items c.push.new.self.items
    ≡ txns_of_tables c.args.self.now.buffer.items c.args.self.now.spans.items c.args.self.now.rows.items ++ txn_fields c.args.txn.now ∷ [])
all_put c =
    let at = goal.at.returns-clause-tables c in
    let old = c.args.self.now in
    let txn = c.args.txn.now in
    let buffer₁ = c.put_ranges.new.buffer in
    let spans₁ = c.put_ranges.new.spans in
    let buffer₂ = c.put_ranges-2.new.buffer in
    let spans₂ = c.put_ranges-2.new.spans in
    let fits : FitsSigned w64 txn.snapshot = search rules in
    subst (λ rows. AreTables buffer₂.items spans₂.items rows
    × (txns_of_tables buffer₂.items spans₂.items rows
    ≡ txns_of_tables old.buffer.items old.spans.items old.rows.items ++ txn_fields txn ∷ []))
    (sym c.in_ok-push.ensures.items)
    (txn_put old.buffer.items buffer₁.items buffer₂.items old.spans.items spans₁.items spans₂.items old.rows.items _
    (txn_fields txn) c.requires.tables (limits_of_txn txn) (reads_put at.In_ok-put_ranges)
    (writes_put at.In_ok-put_ranges-2) (to_z-of_z w64 txn.snapshot fits) refl
    (c.len-2.ensures.count ∙ sym (length-map txn.writes range_fields)) (c.len.ensures ∙ spans₂.ok.0))

pub returns-clause-tables : goal.returns-clause-tables
returns-clause-tables c = (all_put c).0

pub returns-clause-reported : goal.returns-clause-reported
returns-clause-reported c = (all_put c).1
