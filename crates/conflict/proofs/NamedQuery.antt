-- The query that the name at an index asks, and what holds of it.
use Rattle.std.proofs.Common.{◌≡◌, ◌<◌, ℕ, ℤ, List, sym, subst, length, slice_get, slice_index_or, Some, arith}
use Rattle.std.specs.Prelude.{Option, IsSomeAnd}
use Rattle.std.proofs.lemmas.Option.{slice_get-get_or}
use Rattle.keys.specs.declared.range.Range.{Range}
use Rattle.keys.proofs.callers.Lists.{some_at}
use Rattle.keyspace.specs.declared.txn.Txn.{Txn}
use Rattle.keyspace.specs.storage.BatchRanges.{ranges_in}
use Rattle.conflict.specs.Lookup.{queries_named, AreNamed}
use Rattle.conflict.specs.declared.lookup.ReadName.{ReadName}
use Rattle.conflict.proofs.Named.{name_count, named_at, name_found}

-- the name at an index
abbrev pub name : List ReadName → ℕ → ReadName
name names index = slice_index_or names index (record { txn = 0; range = 0 })

-- the query at an index, its range and its transaction
pub found : (txns : List Txn) (names : List ReadName) → AreNamed txns names → (index : ℕ) → index < length (queries_named txns names)
    → (q : Range × ℤ) × (slice_get (queries_named txns names) index ≡ Some q)
    × (slice_get (ranges_in txns) (name names index).range ≡ Some q.0)
    × ((t : Txn) × (slice_get txns (name names index).txn ≡ Some t) × (t.snapshot ≡ q.1))
found txns names named index within =
    let q = some_at (queries_named txns names) index within in
    let inside : index < length names = omega (arith, within, name_count txns names named) in
    let is : slice_get names index ≡ Some (name names index) =
    slice_get-get_or names index (record { txn = 0; range = 0 }) inside in
    let it = name_found txns (name names index) q.0 (named_at txns names named index (name names index) q.0 is q.1) in
    (q.0, q.1, it.0, it.1)

-- what holds of what is found
pub held : {X : Type 0} (P : X → Type 0) (o : Option X) (x : X) → o ≡ Some x → P x → IsSomeAnd o P
held P o x is h = subst (λ o. IsSomeAnd o P) (sym is) h
