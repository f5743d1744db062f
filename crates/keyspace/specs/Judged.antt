-- Which reply a batch must have, after these writes. Source: Algorithm 1 of the FoundationDB paper (SIGMOD 2021), and
-- the checks of `SkipList.cpp` and `ConflictBatch` of release 7.1. That the edge is the batch's own, that an empty read
-- range counts for "too old" and meets nothing, and the meaning of places, is this project's own.
use Rattle.std.specs.Prelude.{
  ◌≡◌,
  ℕ,
  ◌<◌,
  ℤ,
  pos,
  ◌-ℤ◌,
  ◌<ℤ◌,
  ◌⊎◌,
  ◌↔◌,
  List,
  [],
  ◌∷◌,
  length,
  Some,
  slice_get,
  IsTrue,
  IsSomeAnd,
  Any,
  Contains,
}
use Rattle.std.specs.Int.{int_max}
use Rattle.std.specs.List.Sorted.{IsStrictlyIncreasing}
use Rattle.keys.specs.declared.range.Range.{Range}
use Rattle.keyspace.specs.declared.txn.Txn.{Txn}
use Rattle.keyspace.specs.declared.batch.Batch.{Batch}
use Rattle.keyspace.specs.declared.reply.Verdict.{Verdict}
use Rattle.keyspace.specs.declared.reply.Verdict.TheVariants.{Conflict, TooOld, Committed}
use Rattle.keyspace.specs.declared.reply.Entry.{Entry}
use Rattle.keyspace.specs.declared.reply.Reply.{Reply}
use Rattle.keys.specs.Range.{Meets}
use Rattle.keyspace.specs.Writes.{Write, earlier}

-- the batch's version minus the window, or 0 if that is negative
abbrev pub edge : ℤ → Batch → ℤ
edge window b = int_max (b.version -ℤ window) (pos 0)

-- the transaction has a read range, and its snapshot is below the oldest version that may still be read
abbrev pub IsTooOld : ℤ → Txn → Type 0
IsTooOld oldest t = (0 < length t.reads) × (t.snapshot <ℤ oldest)

-- read range i meets a range that was written above the snapshot
abbrev pub IsHit : List Write → Txn → ℕ → Type 0
IsHit ws t i =
    IsSomeAnd (slice_get t.reads i) (λ range. Any (λ w. Meets range w.range × (t.snapshot <ℤ w.version)) ws)

-- read range i meets one of the ranges that earlier transactions of the batch wrote, whatever the snapshot
abbrev pub MeetsEarlier : List Range → Txn → ℕ → Type 0
MeetsEarlier written t i = IsSomeAnd (slice_get t.reads i) (λ range. Any (Meets range) written)

-- some read range does the one or the other
abbrev pub IsInConflict : List Write → List Range → Txn → Type 0
IsInConflict ws written t = (i : ℕ) × (IsHit ws t i ⊎ MeetsEarlier written t i)

-- too old precedes conflict, and a transaction that is neither is committed
abbrev pub HasVerdict : ℤ → List Write → List Range → Txn → Verdict → Type 0
HasVerdict oldest ws written t TooOld = IsTooOld oldest t
HasVerdict oldest ws written t Conflict = ¬ IsTooOld oldest t × IsInConflict ws written t
HasVerdict oldest ws written t Committed = ¬ IsTooOld oldest t × ¬ IsInConflict ws written t

-- whether the entry must report places: the transaction requests them and is in conflict
abbrev pub IsReported : Txn → Verdict → Type 0
IsReported t verdict = IsTrue t.marked × (verdict ≡ Conflict)

-- i is the first read range that meets an earlier write of the batch
abbrev pub IsFirstToMeet : List Range → Txn → ℕ → Type 0
IsFirstToMeet written t i = MeetsEarlier written t i × ((k : ℕ) → k < i → ¬ MeetsEarlier written t k)

-- the places of an entry
pub record HasReport (ws : List Write) (written : List Range) (t : Txn) (e : Entry) : Type 0 where
  -- none unless it must report them
  pub silent : ¬ IsReported t e.verdict → e.places ≡ []
  -- all hits, in increasing order
  pub hits : IsReported t e.verdict → (i : ℕ) → IsHit ws t i
      → IsStrictlyIncreasing e.places × ((k : ℕ) → Contains e.places k ↔ IsHit ws t k)
  -- if there is no hit, the first range that meets the batch
  pub first : IsReported t e.verdict → ((i : ℕ) → ¬ IsHit ws t i)
      → (i : ℕ) × (e.places ≡ i ∷ []) × IsFirstToMeet written t i

-- r is the reply to b after the writes ws
pub record Judged (window : ℤ) (ws : List Write) (b : Batch) (r : Reply) : Type 0 where
  pub version : r.version ≡ b.version
  pub count : length r.entries ≡ length b.txns
  pub verdicts : (j : ℕ) (t : Txn) (e : Entry) → slice_get b.txns j ≡ Some t → slice_get r.entries j ≡ Some e
      → HasVerdict (edge window b) ws (earlier b r j) t e.verdict
  pub reports : (j : ℕ) (t : Txn) (e : Entry) → slice_get b.txns j ≡ Some t → slice_get r.entries j ≡ Some e
      → HasReport ws (earlier b r j) t e
