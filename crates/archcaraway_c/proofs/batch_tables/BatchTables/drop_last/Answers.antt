use Rattle.std.proofs.Common.{arith, ◌≡◌, ◌-◌, List, length, take, refl, ap, subst, ◌∙◌}
use Rattle.std.proofs.lemmas.Grind.{common_steps}
use Rattle.keyspace.specs.declared.row.Row.{Row}
use Rattle.keyspace.specs.storage.Tables.{txns_of_tables, AreRows}
use Rattle.archcaraway_c.proofs.Dropping.{tables_front, reported_front}
use Rattle.archcaraway_c.proofs.Joining.{tables_same, reported_same}
use Rattle.archcaraway_c.proofs.batch_tables.BatchTables.drop_last.Goals as goal

pub returns-in-Some-clause-tables : goal.returns-in-Some-clause-tables
returns-in-Some-clause-tables c =
    let old = c.args.self.now in
    let last = c.in-Some.last in
    let middle = c.first_span-spans.result in
    let front = subst (λ (rows : List Row). AreRows 0 (take last rows) middle) c.deref.ensures.value
    c.first_span-spans.ensures.first in
    tables_same _ _ _ _ _ _ refl c.truncate-in-Some.ensures.items c.truncate.ensures.items
    (tables_front old.buffer.items old.spans.items old.rows.items last middle c.requires.tables front)

pub returns-in-Some-clause-reported : goal.returns-in-Some-clause-reported
returns-in-Some-clause-reported c =
    let old = c.args.self.now in
    let last = c.in-Some.last in
    let middle = c.first_span-spans.result in
    let front = subst (λ (rows : List Row). AreRows 0 (take last rows) middle) c.deref.ensures.value
    c.first_span-spans.ensures.first in
    let same : last ≡ length old.rows.items - 1 = grind (arith, common_steps) in
    reported_same _ _ _ _ _ _ refl c.truncate-in-Some.ensures.items c.truncate.ensures.items
    ∙ reported_front old.buffer.items old.spans.items old.rows.items last middle c.requires.tables front
    ∙ ap (λ n. take n (txns_of_tables old.buffer.items old.spans.items old.rows.items)) same
