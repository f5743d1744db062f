-- What the lines have to do with the verdicts and the reports.
use Rattle.std.specs.Prelude.{◌≡◌, ◌≢◌, ◌⊎◌, ◌↔◌, ℕ, ℤ, List, [], ◌∷◌, ◌++◌, Contains, Some, slice_get}
use Rattle.keyspace.specs.declared.txn.Txn.{Txn}
use Rattle.keyspace.specs.declared.reply.Verdict.TheVariants.{Conflict}
use Rattle.keyspace.specs.declared.reply.Entry.{Entry}
use Rattle.keyspace.specs.Processed.{Processed}
use Rattle.keyspace.specs.Writes.{writes, earlier}
use Rattle.keyspace.specs.Judged.{IsHit, MeetsEarlier}
use Rattle.keyspace.specs.Chain.{IsChain}
use Rattle.replay_explanations.specs.declared.form.ExplanationForm.{ExplanationForm}
use Rattle.replay_explanations.specs.Lines.{conflict_lines, line_at}

-- Each transaction that the reply rejects as a conflict has a line.
abbrev pub EachConflictHasALine : Type 0
EachConflictHasALine = (form : ExplanationForm) (window : ℤ) (ps : List Processed) (p : Processed) → IsChain window (ps ++ p ∷ [])
    → (j : ℕ) (t : Txn) (e : Entry) → slice_get p.batch.txns j ≡ Some t → slice_get p.reply.entries j ≡ Some e
    → e.verdict ≡ Conflict → conflict_lines form (ps ++ p ∷ []) p.batch j t ≢ []

-- A read range has a line exactly if the reference resolver finds it in conflict: with a write of an earlier batch above the snapshot, or
-- of an earlier transaction of the same batch. `conflict_lines` has the lines of all read ranges of its transaction.
abbrev pub LineIfInConflict : Type 0
LineIfInConflict = (form : ExplanationForm) (window : ℤ) (ps : List Processed) (p : Processed) → IsChain window (ps ++ p ∷ [])
    → (j i : ℕ) (t : Txn) → slice_get p.batch.txns j ≡ Some t
    → (IsHit (writes ps) t i ⊎ MeetsEarlier (earlier p.batch p.reply j) t i)
    ↔ (line_at form (ps ++ p ∷ []) p.batch j t i ≢ [])

-- Each read range that the reply reports has a line.
abbrev pub EachReportedReadHasALine : Type 0
EachReportedReadHasALine = (form : ExplanationForm) (window : ℤ) (ps : List Processed) (p : Processed) → IsChain window (ps ++ p ∷ [])
    → (j i : ℕ) (t : Txn) (e : Entry) → slice_get p.batch.txns j ≡ Some t → slice_get p.reply.entries j ≡ Some e
    → Contains e.places i → line_at form (ps ++ p ∷ []) p.batch j t i ≢ []
