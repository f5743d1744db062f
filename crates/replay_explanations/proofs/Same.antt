-- The lines of the batch processed last are the same by the batches that a history keeps.
use Rattle.std.proofs.Common.{◌≡◌, ℕ, zero, suc, ◌+◌, List, [], ◌∷◌, ◌++◌, length, Option, Some, None, slice_get, refl, sym, ap, ◌∙◌, arith}
use Rattle.std.specs.Prelude.{ℤ, ◌≤ℤ◌}
use Rattle.std.specs.List.{flat_map}
use Rattle.keys.specs.declared.range.Range.{Range}
use Rattle.keyspace.specs.declared.txn.Txn.{Txn}
use Rattle.keyspace.specs.declared.batch.Batch.{Batch}
use Rattle.keyspace.specs.declared.reply.Entry.{Entry}
use Rattle.keyspace.specs.declared.reply.Verdict.{Verdict}
use Rattle.keyspace.specs.declared.reply.Verdict.TheVariants.{Conflict, TooOld, Committed}
use Rattle.keyspace.specs.Processed.{Processed}
use Rattle.keyspace.specs.Chain.{IsChain}
use Rattle.keyspace.specs.Judged.{edge}
use Rattle.explanations.specs.Explains.{explaining_writes, newest_of}
use Rattle.explanations.specs.History.{HistoryState, Keeps}
use Rattle.explanations.proofs.callers.Following.{same_explaining}
use Rattle.replay_explanations.specs.declared.form.ExplanationForm.{ExplanationForm}
use Rattle.replay_explanations.specs.Lines.{explanation, indices_from, lines_from, read_line, txn_lines, entire}

lines_same : (form : ExplanationForm) (window : ℤ) (ps qs : List Processed) (b : Batch) (first : ℕ) (ts : List Txn) (es : List Entry)
    → ((j k : ℕ) (t : Txn) (e : Entry) → j ≡ first + k → slice_get ts k ≡ Some t → slice_get es k ≡ Some e
    → txn_lines form window ps b j t e.verdict ≡ txn_lines form window qs b j t e.verdict)
    → lines_from form window ps b first ts es ≡ lines_from form window qs b first ts es
lines_same form window ps qs b first [] es h = refl
lines_same form window ps qs b first (t ∷ ts) [] h = refl
lines_same form window ps qs b first (t ∷ ts) (e ∷ es) h =
    ap (λ (xs : List ℕ). xs ++ lines_from form window ps b (first + 1) ts es) (h first zero t e (omega arith) refl refl)
    ∙ ap (λ (xs : List ℕ). txn_lines form window qs b first t e.verdict ++ xs)
    (lines_same form window ps qs b (first + 1) ts es (λ j k u f same at_u at_f. h j (suc k) u f (omega (arith, same)) at_u at_f))

module _ (form : ExplanationForm) (window : ℤ) (ps : List Processed) (p : Processed) (h : HistoryState) (chain : IsChain window (ps ++ p ∷ []))
    (keeps : Keeps (ps ++ p ∷ []) h) (newest : newest_of h.kept ≡ Some p.batch) (low : h.edge ≤ℤ edge window p.batch) where
  read_same : (j : ℕ) (t : Txn) (e : Entry) → slice_get p.batch.txns j ≡ Some t → slice_get p.reply.entries j ≡ Some e
      → e.verdict ≡ Conflict → (i : ℕ)
      → read_line form p.batch.version j i (slice_get t.reads i) (explaining_writes (ps ++ p ∷ []) p.batch j i)
      ≡ read_line form p.batch.version j i (slice_get t.reads i) (explaining_writes h.kept p.batch j i)
  read_same j t e at_t at_e is i = go (slice_get t.reads i) refl
    where
      go : (o : Option Range) → slice_get t.reads i ≡ o
          → read_line form p.batch.version j i o (explaining_writes (ps ++ p ∷ []) p.batch j i)
          ≡ read_line form p.batch.version j i o (explaining_writes h.kept p.batch j i)
      go None none = refl
      go (Some range) read =
          ap (read_line form p.batch.version j i (Some range))
          (same_explaining window ps p h chain keeps newest low j t e at_t at_e is i range read)

  txn_same : (j : ℕ) (t : Txn) (e : Entry) → slice_get p.batch.txns j ≡ Some t → slice_get p.reply.entries j ≡ Some e
      → txn_lines form window (ps ++ p ∷ []) p.batch j t e.verdict ≡ txn_lines form window h.kept p.batch j t e.verdict
  txn_same j t e at_t at_e = go e.verdict refl
    where
      go : (verdict : Verdict) → e.verdict ≡ verdict
          → txn_lines form window (ps ++ p ∷ []) p.batch j t verdict ≡ txn_lines form window h.kept p.batch j t verdict
      go Committed is = refl
      go TooOld is = refl
      go Conflict is = λ x. flat_map (λ i. read_same j t e at_t at_e is i x) (indices_from 0 (length t.reads))

  pub same_explanation : explanation form window (ps ++ p ∷ []) p ≡ explanation form window h.kept p
  same_explanation =
      ap (entire form) (lines_same form window (ps ++ p ∷ []) h.kept p.batch 0 p.batch.txns p.reply.entries
      (λ j k t e is at_t at_e.
      let same : k ≡ j = omega (arith, is) in
      txn_same j t e (ap (slice_get p.batch.txns) (sym same) ∙ at_t) (ap (slice_get p.reply.entries) (sym same) ∙ at_e)))
