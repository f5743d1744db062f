-- What is committed after a start at a version reads nothing below it.
use Rattle.std.proofs.Common.{◌≡◌, ℕ, zero, suc, ◌<◌, List, [], ◌∷◌, ◌++◌, take, drop, Some, ap, subst, inl, inr, arith}
use Rattle.std.specs.Prelude.{ℤ, pos, negsuc, ◌≤ℤ◌, ◌<ℤ◌, int_lt, Any, Contains, slice_get}
use Rattle.std.proofs.lemmas.Bool.{cases_Bool}
use Rattle.std.proofs.lemmas.Int.{ints}
use Rattle.std.proofs.lemmas.Option.{same_Some}
use Rattle.keys.specs.declared.range.Range.{Range}
use Rattle.keys.specs.Range.{IsEmpty, Meets}
use Rattle.keys.proofs.callers.SomeElement.{Any-left}
use Rattle.keyspace.specs.declared.txn.Txn.{Txn}
use Rattle.keyspace.specs.declared.reply.Entry.{Entry}
use Rattle.keyspace.specs.declared.reply.Verdict.TheVariants.{Committed}
use Rattle.keyspace.specs.Writes.{Write, writes, earlier}
use Rattle.keyspace.specs.Judged.{edge, IsHit, HasVerdict}
use Rattle.keyspace.specs.Judge.{judge}
use Rattle.keyspace.specs.Processed.{Processed}
use Rattle.keyspace.specs.Chain.{IsChain}
use Rattle.keyspace.specs.Laws.{RunsAreChains}
use Rattle.keyspace.specs.Run.{Step, run}
use Rattle.serial.specs.Commits.{IsCommitted}
use Rattle.serial.proofs.callers.Reading.{split_at, some_at, the_value, at_index}
use Rattle.conflict.specs.Unknown.{unknown_until, HitsBelow}
use Rattle.resolver.specs.OpeningLog.{opening_batch, log_from, ReadsFrom}
use Rattle.resolver.proofs.FromVersion.{grows_from}

-- a hit by some of the writes is a hit by all
hit_more : (ws later : List Write) (t : Txn) (k : ℕ) → IsHit ws t k → IsHit (ws ++ later) t k
hit_more ws later t k hit =
    let Above : Range → Write → Type 0 = λ range w. Meets range w.range × (t.snapshot <ℤ w.version) in
    let found = the_value (λ range. Any (Above range) ws) (slice_get t.reads k) hit in
    some_at (λ range. Any (Above range) (ws ++ later)) (slice_get t.reads k) found.0 found.1
    (Any-left (Above found.0) ws later found.2)

-- what was processed at the opening
abbrev opening_processed : ℤ → ℕ → ℕ → Processed
opening_processed window proxies n = record {
  proxy = proxies;
  batch = opening_batch n;
  reply = judge window [] (opening_batch n);
}

module _ (hits : HitsBelow) (window : ℤ) (proxies n : ℕ) where
  none_after : (rest : List Processed) → IsChain window (opening_processed window proxies n ∷ rest) → (i j : ℕ) (p : Processed) (t : Txn)
      → IsCommitted (opening_processed window proxies n ∷ rest) i j p t → p.proxy < proxies → ReadsFrom (pos n) t
  none_after rest chain zero j p t c known range among filled =
      let first = ap (λ (e : Processed). e.proxy) (same_Some (opening_processed window proxies n) p c.batch) in
      absurd (omega (arith, first, known))
  none_after rest chain (suc i) j p t c known range among filled =
      let ps = opening_processed window proxies n ∷ rest in
      elim (cases_Bool (int_lt t.snapshot (pos n))) [
        | inl test ↦
            let below : t.snapshot <ℤ pos n = grind (arith, ints, test) in
            let place = at_index t.reads range among in
            let hit = (hits (pos n) t place.0 range place.1 below).1 filled in
            let judged = (chain (take (suc i) ps) p (drop (suc (suc i)) ps) (split_at ps (suc i) p c.batch)).judged in
            let entry = the_value (λ (e : Entry). e.verdict ≡ Committed) (slice_get p.reply.entries j) c.verdict in
            let right = judged.verdicts j t entry.0 c.txn entry.1 in
            let committed = subst (HasVerdict (edge window p.batch) (writes (take (suc i) ps)) (earlier p.batch p.reply j) t)
            entry.2 right in
            absurd (committed.1 (place.0, inl (hit_more (unknown_until (pos n)) (writes (take i rest)) t place.0 hit)))
        | inr test ↦ grind (arith, ints, test)
      ]

pub none_below : HitsBelow → RunsAreChains → (version window : ℤ) (proxies : ℕ) (log : List Step) (i j : ℕ) (p : Processed)
    (t : Txn) → IsCommitted (run window (log_from version proxies log)).processed i j p t → p.proxy < proxies
    → ReadsFrom version t
none_below hits chains (pos n) window proxies log i j p t c known =
    let begins = (grows_from window (pos n) proxies log).processed in
    none_after hits window proxies n begins.0
    (subst (IsChain window) begins.1 (chains window (log_from (pos n) proxies log))) i j p t
    (subst (λ (ps : List Processed). IsCommitted ps i j p t) begins.1 c) known
none_below hits chains (negsuc n) window proxies log i j p t c known =
    λ range among filled.
    let natural = t.natural in
    omega (arith, ints, natural)
