-- What explanations have to do with the reference resolver.
use Rattle.std.specs.Prelude.{◌≡◌, ◌≢◌, ℕ, ℤ, ◌≤ℤ◌, ◌⊎◌, ◌↔◌, List, [], ◌∷◌, ◌++◌, map, Some, slice_get}
use Rattle.keyspace.specs.declared.txn.Txn.{Txn}
use Rattle.keyspace.specs.declared.batch.Batch.{Batch}
use Rattle.keyspace.specs.declared.reply.Verdict.TheVariants.{Conflict}
use Rattle.keyspace.specs.declared.reply.Entry.{Entry}
use Rattle.keyspace.specs.Processed.{Processed}
use Rattle.keyspace.specs.Writes.{writes, earlier}
use Rattle.keyspace.specs.Judged.{IsHit, MeetsEarlier}
use Rattle.keyspace.specs.Chain.{IsChain}
use Rattle.explanations.specs.Written.{Written, all_written}
use Rattle.explanations.specs.Explains.{explaining_writes, newest_of}
use Rattle.explanations.specs.History.{HistoryState, Keeps}

-- without their origins they are the writes of the reference resolver
abbrev pub SameWrites : Type 0
SameWrites = (ps : List Processed)
    → map (λ (w : Written). record { range = w.range; version = w.version }) (all_written ps) ≡ writes ps

-- Of the batch processed last, a read range has an explanation exactly if the reference resolver finds it in conflict.
abbrev pub ExplainedIfInConflict : Type 0
ExplainedIfInConflict = (window : ℤ) (ps : List Processed) (p : Processed) → IsChain window (ps ++ p ∷ [])
    → (j i : ℕ) (t : Txn) → slice_get p.batch.txns j ≡ Some t
    → (IsHit (writes ps) t i ⊎ MeetsEarlier (earlier p.batch p.reply j) t i)
    ↔ (explaining_writes (ps ++ p ∷ []) p.batch j i ≢ [])

-- Each transaction that the reply rejects as a conflict has a read range with an explanation.
abbrev pub EachConflictExplained : Type 0
EachConflictExplained = (window : ℤ) (ps : List Processed) (p : Processed) → IsChain window (ps ++ p ∷ [])
    → (j : ℕ) (e : Entry) → slice_get p.reply.entries j ≡ Some e → e.verdict ≡ Conflict
    → (i : ℕ) × (explaining_writes (ps ++ p ∷ []) p.batch j i ≢ [])

-- A history has all explanations of a transaction of the batch processed last that isn't too old: those that it dropped explain nothing.
abbrev pub DroppedExplainNothing : Type 0
DroppedExplainNothing = (window : ℤ) (ps : List Processed) (h : HistoryState) → IsChain window ps → Keeps ps h
    → (b : Batch) → newest_of h.kept ≡ Some b
    → (j i : ℕ) (t : Txn) → slice_get b.txns j ≡ Some t → h.edge ≤ℤ t.snapshot
    → explaining_writes ps b j i ≡ explaining_writes h.kept b j i
