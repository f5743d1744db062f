use Rattle.std.proofs.Common.{arith, ◌≡◌, ◌≤◌, List, ◌++◌, length, map, sym, ap, ap₂, ◌∙◌, subst, All}
use Rattle.std.proofs.lemmas.List.Elements.{All-weaker}
use Rattle.keyspace.specs.declared.span.Span.{Span}
use Rattle.keyspace.specs.declared.row.Row.{Row}
use Rattle.keyspace.proofs.callers.Putting.{few_spans}
use Rattle.archcaraway_c.specs.Moving.{span_moved, row_moved}
use Rattle.archcaraway_c.proofs.Joining.{rows_end, tables_joined, reported_joined, tables_same, reported_same}
use Rattle.archcaraway_c.proofs.batch_tables.BatchTables.append_all.Goals as goal
use Rattle.archcaraway_c.proofs.batch_tables.BatchTables.append_all.Goals.{In_ok-extend_from_slice}

pub push_rows-requires-clause-fits : goal.push_rows-requires-clause-fits
push_rows-requires-clause-fits c =
    let s = c.args.self.now in
    let o = c.args.other.now in
    omega (
      arith,
      c.requires.few,
      c.len-spans.ensures,
      c.len.ensures,
      s.spans.ok.0,
      o.spans.ok.0,
      s.rows.ok.0,
      o.rows.ok.0,
      few_spans s.buffer.items s.spans.items s.rows.items c.requires.tables,
      few_spans o.buffer.items o.spans.items o.rows.items c.requires.others,
    )

pub push_rows-requires-clause-within : goal.push_rows-requires-clause-within
push_rows-requires-clause-within c =
    let o = c.args.other.now in
    subst (λ (rows : List Row). All (λ row. row.end ≤ c.len.result) rows) (sym c.deref.ensures.value)
    (All-weaker (λ (row : Row). row.end ≤ length o.spans.items) (λ (row : Row). row.end ≤ c.len.result)
    (λ row lies. omega (arith, lies, c.len.ensures, o.spans.ok.0)) o.rows.items
    (rows_end 0 o.rows.items (length o.spans.items) c.requires.others.rows_fit))

buffer_is : (c : In_ok-extend_from_slice)
    → c.extend_from_slice.new.self.items ≡ c.args.self.now.buffer.items ++ c.args.other.now.buffer.items
buffer_is c =
    c.in_ok-extend_from_slice.ensures.items ∙ ap (λ bytes. c.args.self.now.buffer.items ++ bytes) c.deref-3.ensures.value

spans_are : (c : In_ok-extend_from_slice)
    → c.push_spans.new.spans.items ≡ c.args.self.now.spans.items
    ++ map (span_moved (length c.args.self.now.buffer.items)) c.args.other.now.spans.items
spans_are c =
    let old = c.args.self.now in
    c.in_ok-push_spans.ensures.pushed
    ∙ ap₂ (λ n (spans : List Span). old.spans.items ++ map (span_moved n) spans)
    (c.len-before.ensures ∙ old.buffer.ok.0) c.deref-2.ensures.value

rows_are : (c : In_ok-extend_from_slice)
    → c.push_rows.new.rows.items ≡ c.args.self.now.rows.items
    ++ map (row_moved (length c.args.self.now.spans.items)) c.args.other.now.rows.items
rows_are c =
    let old = c.args.self.now in
    c.in_ok-push_rows.ensures.pushed
    ∙ ap₂ (λ n (rows : List Row). old.rows.items ++ map (row_moved n) rows)
    (c.len-spans.ensures ∙ old.spans.ok.0) c.deref.ensures.value

pub returns-clause-tables : goal.returns-clause-tables
returns-clause-tables c =
    let at = goal.at.returns-clause-tables c in
    let s = c.args.self.now in
    let o = c.args.other.now in
    tables_same _ _ _ _ _ _ (buffer_is at.In_ok-extend_from_slice) (spans_are at.In_ok-extend_from_slice)
    (rows_are at.In_ok-extend_from_slice)
    (tables_joined s.buffer.items s.spans.items s.rows.items c.requires.tables o.buffer.items o.spans.items o.rows.items
    c.requires.others)

pub returns-clause-reported : goal.returns-clause-reported
returns-clause-reported c =
    let at = goal.at.returns-clause-reported c in
    let s = c.args.self.now in
    let o = c.args.other.now in
    reported_same _ _ _ _ _ _ (buffer_is at.In_ok-extend_from_slice) (spans_are at.In_ok-extend_from_slice)
    (rows_are at.In_ok-extend_from_slice)
    ∙ reported_joined s.buffer.items s.spans.items s.rows.items c.requires.tables o.buffer.items o.spans.items o.rows.items
    c.requires.others
