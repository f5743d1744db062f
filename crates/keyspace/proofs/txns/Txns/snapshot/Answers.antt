use Rattle.std.proofs.Common.{rules, arith, ◌≡◌, ℤ, List, slice_get, FitsSigned, w64, sym, ap, ◌∙◌, subst, Some}
use Rattle.std.specs.Prelude.{Option, IsSomeAnd}
use Rattle.std.proofs.lemmas.Int.{to_z-of_z}
use Rattle.keys.proofs.callers.Lists.{some_at}
use Rattle.keyspace.specs.declared.txn.Txn.{Txn}
use Rattle.keyspace.proofs.ReadHashes.{row_within, snapshot_at}
use Rattle.keyspace.proofs.txns.Txns.snapshot.Goals.{After-self}
use Rattle.keyspace.proofs.txns.Txns.snapshot.Goals as goal

-- the transaction at the index, among those that the tables show
found : (c : After-self) → (txn : Txn) × (slice_get c.args.self.now c.args.index ≡ Some txn)
found c = some_at c.args.self.now c.args.index c.requires.within

-- a version that is that of what is found
held : (version : ℤ) (o : Option Txn) (txn : Txn) → o ≡ Some txn → version ≡ txn.snapshot
    → IsSomeAnd o (λ (t : Txn). version ≡ t.snapshot)
held version o txn is same = subst (λ o. IsSomeAnd o (λ (t : Txn). version ≡ t.snapshot)) (sym is) same

pub index-requires : goal.index-requires
index-requires c =
    let tables = c.self.inside in
    let it = found c in
    let is = ap (λ (txns : List Txn). slice_get txns c.args.index) c.self.view_is in
    let within = row_within tables.buffer.items tables.spans.items tables.rows.items tables.tables c.args.index it.0 (is ∙ it.1) in
    omega (arith, within, tables.rows.ok.0)

pub returns : goal.returns
returns c =
    let at = goal.at.returns c in
    let tables = c.self.inside in
    let row = c.index.result.now in
    let fits : FitsSigned w64 row.snapshot = search rules in
    let it = found at.After-self in
    let is = ap (λ (txns : List Txn). slice_get txns c.args.index) c.self.view_is in
    let same = snapshot_at tables.buffer.items tables.spans.items tables.rows.items tables.tables c.args.index row it.0
    (is ∙ it.1) c.index.ensures in
    record {
      snapshot = held _ (slice_get c.args.self.now c.args.index) it.0 it.1 (to_z-of_z w64 row.snapshot fits ∙ same);
    }
