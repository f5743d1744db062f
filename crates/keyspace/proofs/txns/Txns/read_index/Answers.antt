use Rattle.std.proofs.Common.{arith, ◌≡◌, ◌+◌, ◌<◌, ℕ, List, length, take, refl, sym, ap, ◌∙◌, subst}
use Rattle.std.specs.Prelude.{Option, Some, None, IsSomeAnd, slice_get}
use Rattle.std.proofs.lemmas.Option.{slice_get_within}
use Rattle.keys.specs.declared.range.Range.{Range}
use Rattle.keys.proofs.callers.Lists.{some_at}
use Rattle.keyspace.specs.declared.txn.Txn.{Txn}
use Rattle.keyspace.specs.declared.row.Row.{Row}
use Rattle.keyspace.specs.storage.BatchRanges.{ranges_in}
use Rattle.keyspace.specs.storage.Tables.{AreRows}
use Rattle.keyspace.proofs.ReadHashes.{row_within, read_at, few_ranges}
use Rattle.keyspace.proofs.txns.Txns.read_index.Goals.{After-first_span}
use Rattle.keyspace.proofs.txns.Txns.read_index.Goals as goal

-- the transaction at the index, with a range at the other
named : (found : Option Txn) (read : ℕ) → IsSomeAnd found (λ txn. read < length txn.reads)
    → (txn : Txn) × (found ≡ Some txn) × ((range : Range) × (slice_get txn.reads read ≡ Some range))
named None read within = absurd within
named (Some txn) read within = (txn, refl, some_at txn.reads read within)

pub first_span-requires-clause-within : goal.first_span-requires-clause-within
first_span-requires-clause-within c =
    let tables = c.self.inside in
    let it = named (slice_get c.args.self.now c.args.index) c.args.read c.requires.within in
    let is = ap (λ (txns : List Txn). slice_get txns c.args.index) c.self.view_is ∙ it.1 in
    let within = row_within tables.buffer.items tables.spans.items tables.rows.items tables.tables c.args.index it.0 is in
    subst (λ (rows : List Row). c.args.index < length rows) (sym c.deref.ensures.value) within

-- where the range stands among all ranges
place : (c : After-first_span) → (txn : Txn) (range : Range) → slice_get c.args.self.now c.args.index ≡ Some txn
    → slice_get txn.reads c.args.read ≡ Some range
    → slice_get (ranges_in c.args.self.now) (c.first_span.result + c.args.read) ≡ Some range
place c txn range is there =
    let tables = c.self.inside in
    let before = subst (λ (rows : List Row). AreRows 0 (take c.args.index rows) c.first_span.result) c.deref.ensures.value
    c.first_span.ensures.first in
    ap (λ (txns : List Txn). slice_get (ranges_in txns) (c.first_span.result + c.args.read)) (sym c.self.view_is)
    ∙ read_at tables.buffer.items tables.spans.items tables.rows.items tables.tables c.args.index c.args.read
    c.first_span.result txn range before (ap (λ (txns : List Txn). slice_get txns c.args.index) c.self.view_is ∙ is) there

pub overflow_add-result : goal.overflow_add-result
overflow_add-result c =
    let at = goal.at.overflow_add-result c in
    let tables = c.self.inside in
    let it = named (slice_get c.args.self.now c.args.index) c.args.read c.requires.within in
    let within = slice_get_within (ranges_in c.args.self.now) (c.first_span.result + c.args.read) it.2.0
    (place at.After-first_span it.0 it.2.0 it.1 it.2.1) in
    let count = ap (λ (txns : List Txn). length (ranges_in txns)) c.self.view_is in
    let few = few_ranges tables.buffer.items tables.spans.items tables.rows.items tables.tables in
    omega (arith, within, count, few, tables.few, tables.rows.ok.0)

pub returns : goal.returns
returns c =
    let at = goal.at.returns c in
    record { range = place at.After-first_span }
