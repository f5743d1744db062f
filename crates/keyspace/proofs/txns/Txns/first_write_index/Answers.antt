use Rattle.std.proofs.Common.{arith, ◌≡◌, ◌+◌, ◌-◌, ◌<◌, List, length, slice_get, sym, ap, ◌∙◌, Some}
use Rattle.keys.proofs.callers.Lists.{some_at}
use Rattle.keyspace.specs.declared.txn.Txn.{Txn}
use Rattle.keyspace.specs.storage.BatchRanges.{ranges_in}
use Rattle.keyspace.proofs.ReadHashes.{row_within, write_at, writes_fit}
use Rattle.keyspace.proofs.txns.Txns.first_write_index.Goals.{After-self}
use Rattle.keyspace.proofs.txns.Txns.first_write_index.Goals as goal

within_rows : (c : After-self) → c.args.index < length c.self.inside.rows.items
within_rows c =
    let tables = c.self.inside in
    let it = some_at c.args.self.now c.args.index c.requires.within in
    let is = ap (λ (txns : List Txn). slice_get txns c.args.index) c.self.view_is in
    row_within tables.buffer.items tables.spans.items tables.rows.items tables.tables c.args.index it.0 (is ∙ it.1)

pub index-row-requires : goal.index-row-requires
index-row-requires c =
    let at = goal.at.index-row-requires c in
    omega (arith, within_rows at.After-self, c.self.inside.rows.ok.0)

pub overflow_sub-result : goal.overflow_sub-result
overflow_sub-result c =
    let at = goal.at.overflow_sub-result c in
    let tables = c.self.inside in
    let fit = writes_fit tables.buffer.items tables.spans.items tables.rows.items tables.tables c.args.index c.index-row.result.now
    (within_rows at.After-self) c.index-row.ensures in
    omega (arith, fit)

pub returns : goal.returns
returns c =
    let at = goal.at.returns c in
    let tables = c.self.inside in
    record {
      writes = λ txn write range is there.
          let same = ap (λ (txns : List Txn). slice_get txns c.args.index) c.self.view_is in
          let first = c.index-row.result.now.end - c.index-row.result.now.writes in
          ap (λ (txns : List Txn). slice_get (ranges_in txns) (first + write)) (sym c.self.view_is)
          ∙ write_at tables.buffer.items tables.spans.items tables.rows.items tables.tables c.args.index write
          c.index-row.result.now txn range (same ∙ is) c.index-row.ensures there;
    }
