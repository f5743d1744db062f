-- Each transaction that is rejected as a conflict has a line, and so has each of its read ranges in conflict.
use Rattle.std.proofs.Common.{◌≡◌, ◌≢◌, ℕ, zero, suc, ◌-◌, ◌^◌, ◌<◌, min, List, [], ◌∷◌, ◌++◌, length, Option, Some, None, slice_get, refl, sym, ap, subst, ◌∙◌, inl, inr, ◌⊎◌, ◌↔◌, arith}
use Rattle.std.specs.Prelude.{ℤ, Contains}
use Rattle.std.specs.List.{flat_map}
use Rattle.std.proofs.lemmas.Option.{slice_get_within}
use Rattle.keys.specs.declared.range.Range.{Range}
use Rattle.keyspace.specs.declared.txn.Txn.{Txn}
use Rattle.keyspace.specs.declared.reply.Entry.{Entry}
use Rattle.keyspace.specs.declared.reply.Verdict.TheVariants.{Conflict}
use Rattle.keyspace.specs.Processed.{Processed}
use Rattle.keyspace.specs.Chain.{IsChain}
use Rattle.keyspace.specs.Writes.{writes, earlier}
use Rattle.keyspace.specs.Judged.{IsHit, MeetsEarlier, IsReported, HasReport}
use Rattle.explanations.specs.Written.{Written, all_written, newest_write}
use Rattle.explanations.specs.Explains.{explaining_writes, explaining_range, explaining_txn}
use Rattle.explanations.proofs.callers.Chains.{explained_if_in_conflict, each_conflict_explained}
use Rattle.replay_explanations.specs.declared.form.ExplanationForm.{ExplanationForm}
use Rattle.replay_explanations.specs.declared.form.ExplanationForm.TheVariants.{Words, Json}
use Rattle.replay_explanations.specs.Lines.{conflict_text, conflict_lines, indices_from, line_at, read_line}
use Rattle.replay_explanations.proofs.Indices.{index_at}

first_empty : (xs ys : List ℕ) → xs ++ ys ≡ [] → xs ≡ []
first_empty [] ys e = refl
first_empty (x ∷ xs) ys e = absurd cc

second_empty : (xs ys : List ℕ) → xs ++ ys ≡ [] → ys ≡ []
second_empty [] ys e = e
second_empty (x ∷ xs) ys e = absurd cc

-- one of the lines is there
some_line : (line : ℕ → List ℕ) (xs : List ℕ) (k x : ℕ) → slice_get xs k ≡ Some x → line x ≢ [] → flat_map line xs ≢ []
some_line line [] k x at there e = absurd cc
some_line line (y ∷ xs) zero x at there e =
    let same : y ≡ x = cc in
    there (ap line (sym same) ∙ first_empty (line y) (flat_map line xs) e)
some_line line (y ∷ xs) (suc k) x at there e =
    some_line line xs k x at there (second_empty (line y) (flat_map line xs) e)

some_newest : (ws : List Written) → ws ≢ [] → (w : Written) × (newest_write ws ≡ Some w)
some_newest [] some = absurd (some refl)
some_newest (w ∷ []) some = (w, refl)
some_newest (w ∷ x ∷ ws) some = some_newest (x ∷ ws) (λ e. cc)

line_of_write : (form : ExplanationForm) (version : ℤ) (j i : ℕ) (range : Range) (w : Written) (others : ℕ)
    → conflict_text form version j i range (Some w) others ≢ []
line_of_write Words version j i range w others e = cc
line_of_write Json version j i range w others e = cc

-- a read range that a write explains has a line
line_of_range : (form : ExplanationForm) (version : ℤ) (j i : ℕ) (o : Option Range) (all : List Written) (snapshot : ℤ)
    → explaining_range all version j snapshot o ≢ []
    → read_line form version j i o (explaining_range all version j snapshot o) ≢ []
line_of_range form version j i None all snapshot some e = some refl
line_of_range form version j i (Some range) all snapshot some e =
    let ws = explaining_range all version j snapshot (Some range) in
    let others = min (length ws - 1) (2 ^ 64 - 1) in
    let last = some_newest ws some in
    line_of_write form version j i range last.0 others
    (ap (λ (o : Option Written). conflict_text form version j i range o others) (sym last.1) ∙ e)

-- one that none explains has none
no_line : (form : ExplanationForm) (version : ℤ) (j i : ℕ) (o : Option Range) → read_line form version j i o [] ≡ []
no_line form version j i None = refl
no_line Words version j i (Some range) = refl
no_line Json version j i (Some range) = refl

read_within : (version : ℤ) (j i : ℕ) (reads : List Range) (all : List Written) (snapshot : ℤ)
    → explaining_range all version j snapshot (slice_get reads i) ≢ [] → i < length reads
read_within version j i reads all snapshot some = go (slice_get reads i) refl
  where
    go : (o : Option Range) → slice_get reads i ≡ o → i < length reads
    go None e = absurd (some (ap (explaining_range all version j snapshot) e))
    go (Some range) e = slice_get_within reads i range e

none_in : (i : ℕ) → Contains [] i → ⊥
none_in i has = omega (arith, has.1)

only_one : (x i : ℕ) → Contains (x ∷ []) i → x ≡ i
only_one x i (zero, inside, is) = is
only_one x i (suc k, inside, is) = absurd (omega (arith, inside))

module _ (form : ExplanationForm) (window : ℤ) (ps : List Processed) (p : Processed) (chain : IsChain window (ps ++ p ∷ [])) (j : ℕ) (t : Txn)
    (at_t : slice_get p.batch.txns j ≡ Some t) where
  -- the line of read range i
  line : ℕ → List ℕ
  line i = line_at form (ps ++ p ∷ []) p.batch j t i

  by_range : (i : ℕ) → explaining_writes (ps ++ p ∷ []) p.batch j i
      ≡ explaining_range (all_written (ps ++ p ∷ [])) p.batch.version j t.snapshot (slice_get t.reads i)
  by_range i = ap (λ (o : Option Txn). explaining_txn (all_written (ps ++ p ∷ [])) p.batch.version j o i) at_t

  line_there : (i : ℕ) → explaining_writes (ps ++ p ∷ []) p.batch j i ≢ [] → line i ≢ []
  unfolding line
  line_there i some none =
      line_of_range form p.batch.version j i (slice_get t.reads i) (all_written (ps ++ p ∷ [])) t.snapshot
      (λ no. some (by_range i ∙ no))
      (ap (read_line form p.batch.version j i (slice_get t.reads i)) (sym (by_range i)) ∙ none)

  explained : (i : ℕ) → line i ≢ [] → explaining_writes (ps ++ p ∷ []) p.batch j i ≢ []
  unfolding line
  explained i some none =
      some (ap (read_line form p.batch.version j i (slice_get t.reads i)) none ∙ no_line form p.batch.version j i (slice_get t.reads i))

  in_conflict : (i : ℕ) → IsHit (writes ps) t i ⊎ MeetsEarlier (earlier p.batch p.reply j) t i → line i ≢ []
  in_conflict i met = line_there i ((explained_if_in_conflict window ps p chain j t i at_t).0 met)

  -- the read ranges that have a line
  pub line_if_in_conflict : (i : ℕ) → (IsHit (writes ps) t i ⊎ MeetsEarlier (earlier p.batch p.reply j) t i)
      ↔ (line_at form (ps ++ p ∷ []) p.batch j t i ≢ [])
  unfolding line
  line_if_in_conflict i = (in_conflict i, λ some. (explained_if_in_conflict window ps p chain j t i at_t).1 (explained i some))

  module _ (e : Entry) (at_e : slice_get p.reply.entries j ≡ Some e) where
    pub has_line : e.verdict ≡ Conflict → conflict_lines form (ps ++ p ∷ []) p.batch j t ≢ []
    unfolding line
    has_line conflict =
        let some = each_conflict_explained window ps p chain j e at_e conflict in
        let inside = read_within p.batch.version j some.0 t.reads (all_written (ps ++ p ∷ [])) t.snapshot
        (λ no. some.1 (by_range some.0 ∙ no)) in
        some_line line (indices_from 0 (length t.reads)) some.0 some.0
        (index_at (length t.reads) 0 some.0 some.0 inside (omega arith)) (line_there some.0 some.1)

    -- a read range of the report
    pub reported_has_line : (i : ℕ) → Contains e.places i → line_at form (ps ++ p ∷ []) p.batch j t i ≢ []
    unfolding line
    reported_has_line i has none =
        let report : HasReport (writes ps) (earlier p.batch p.reply j) t e =
        (chain ps p [] refl).judged.reports j t e at_t at_e in
        let unreported : IsReported t e.verdict → ⊥ = λ reported.
        let no_hits : (k : ℕ) → IsHit (writes ps) t k → ⊥ = λ k hit.
        in_conflict i (inl (((report.hits reported k hit).1 i).0 has)) none in
        let first = report.first reported no_hits in
        let same : first.0 ≡ i = only_one first.0 i (subst (λ (xs : List ℕ). Contains xs i) first.1 has) in
        in_conflict i (inr (subst (MeetsEarlier (earlier p.batch p.reply j) t) same first.2.0)) none in
        none_in i (subst (λ (xs : List ℕ). Contains xs i) (report.silent unreported) has)
