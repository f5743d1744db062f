use Rattle.std.proofs.Common.{◌≡◌, FitsSigned, w64, length, map, sym, ap, ◌∙◌, rules}
use Rattle.std.specs.Vec.{with_items}
use Rattle.std.proofs.lemmas.Int.{to_z-of_z}
use Rattle.std.proofs.lemmas.List.{with_items_is}
use Rattle.keyspace.specs.declared.batch.Batch.{Batch}
use Rattle.keyspace.proofs.callers.SameFields.{same_batch}
use Rattle.replay_workers.specs.Asking.{asking_row}
use Rattle.replay_workers.proofs.Reporting.{few_asking, tables_asking, reported_asking}
use Rattle.replay_workers.proofs.reporting_batches.all_asking.Goals.{After-ask_all}
use Rattle.replay_workers.proofs.reporting_batches.all_asking.Goals as goal

-- the rows that are put together again
asked : (c : After-ask_all)
    → (with_items c.into_tables-tables.result.rows c.ask_all.new.rows).items ≡ map asking_row c.into_tables-tables.result.rows.items
asked c =
    let own = c.into_tables-tables.result.rows in
    let long : length c.ask_all.new.rows ≡ own.len =
    c.ask_all.auto.rows ∙ ap length c.deref_mut.ensures.value ∙ sym own.ok.0 in
    with_items_is own c.ask_all.new.rows long ∙ c.ask_all.ensures.asking ∙ ap (map asking_row) c.deref_mut.ensures.value

pub new-requires-clause-tables : goal.new-requires-clause-tables
new-requires-clause-tables c =
    let at = goal.at.new-requires-clause-tables c in
    let own = c.into_tables-tables.result in
    tables_asking own.buffer.items own.spans.items own.rows.items _ (asked at.After-ask_all) c.into_tables-tables.ensures.tables

pub new-requires-clause-few : goal.new-requires-clause-few
new-requires-clause-few c =
    let at = goal.at.new-requires-clause-few c in
    let own = c.into_tables-tables.result in
    few_asking own.buffer.items own.spans.items own.rows.items _ (asked at.After-ask_all) c.args.batch.txns
    c.into_tables-tables.ensures.txns c.args.batch.few

pub returns : goal.returns
returns c =
    let at = goal.at.returns c in
    let own = c.into_tables-tables.result in
    let b = c.args.batch in
    let previous : FitsSigned w64 c.batch.inside.previous = search rules in
    let version : FitsSigned w64 c.batch.inside.version = search rules in
    let received : FitsSigned w64 c.batch.inside.received = search rules in
    record {
      asking = same_batch c.new.result _
          (c.new.ensures.previous ∙ to_z-of_z w64 c.batch.inside.previous previous ∙ ap (λ (x : Batch). x.previous) c.batch.view_is)
          (c.new.ensures.version ∙ to_z-of_z w64 c.batch.inside.version version ∙ ap (λ (x : Batch). x.version) c.batch.view_is)
          (c.new.ensures.received ∙ to_z-of_z w64 c.batch.inside.received received ∙ ap (λ (x : Batch). x.received) c.batch.view_is)
          (c.new.ensures.txns ∙ reported_asking own.buffer.items own.spans.items own.rows.items _ (asked at.After-ask_all) b.txns
          c.into_tables-tables.ensures.txns);
    }
