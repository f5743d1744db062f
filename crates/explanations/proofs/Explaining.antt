-- A read range of the newest batch has an explanation exactly if the reference resolver finds it in conflict.
use Rattle.std.proofs.Common.{◌≡◌, ◌≢◌, ℕ, false, ◌&&◌, ◌||◌, List, [], ◌∷◌, ◌++◌, refl, sym, ap, subst, ◌∙◌, inl, inr, ◌⊎◌, ◌↔◌, arith, append-nil, append_assoc}
use Rattle.std.specs.Prelude.{ℤ, ◌<ℤ◌, ◌≤ℤ◌, int_lt, Option, Some, None, slice_get, Any, All, IsSomeAnd}
use Rattle.std.specs.List.{filter, list_any}
use Rattle.std.proofs.lemmas.Int.{ints}
use Rattle.std.proofs.lemmas.Grind.{flat_map-append}
use Rattle.std.proofs.lemmas.Option.{slice_get_within}
use Rattle.std.proofs.lemmas.List.Elements.{All-weaker, filter-append}
use Rattle.std.proofs.lemmas.List.Folds.{list_any-append}
use Rattle.keys.specs.Range.{Meets, ranges_meet}
use Rattle.keys.specs.declared.range.Range.{Range}
use Rattle.keys.proofs.callers.Booleans.{or_either, or_left, or_right}
use Rattle.keys.proofs.callers.Lists.{some_at}
use Rattle.keys.proofs.callers.Meeting.{meets_from_test, test_from_meets}
use Rattle.keyspace.specs.declared.txn.Txn.{Txn}
use Rattle.keyspace.specs.declared.batch.Batch.{Batch}
use Rattle.keyspace.specs.declared.reply.Verdict.{Verdict}
use Rattle.keyspace.specs.declared.reply.Verdict.TheVariants.{Conflict}
use Rattle.keyspace.specs.declared.reply.Entry.{Entry}
use Rattle.keyspace.specs.Processed.{Processed}
use Rattle.keyspace.specs.Writes.{Write, writes, earlier}
use Rattle.keyspace.specs.Judged.{edge, HasVerdict, IsHit, IsInConflict, MeetsEarlier}
use Rattle.keyspace.specs.Judge.{is_hit, meets_earlier}
use Rattle.keyspace.specs.Chain.{IsChain}
use Rattle.keyspace.proofs.callers.Judging.{any_from_test, test_from_any, range_hit_from_test, test_from_range_hit}
use Rattle.explanations.specs.Written.{Written, written_in, all_written}
use Rattle.explanations.specs.Explains.{explains, explaining_writes, explaining_range, explaining_txn, newest_of}
use Rattle.explanations.specs.History.{HistoryState, Keeps}
use Rattle.explanations.proofs.Passing.{filter_none, some_left, any_if_left, any_same, All-left, All-both}
use Rattle.explanations.proofs.Origins.{IsWrittenAt, without_origin, same_writes, all_at}
use Rattle.explanations.proofs.Rising.{Precedes, versions_below, newest_last}
use Rattle.explanations.proofs.Earlier.{not_equal_below, not_below_at_most, explains_older, explains_none, any_earlier}

at_most_through : (a b c : ℤ) → a ≤ℤ b → b ≤ℤ c → a ≤ℤ c
at_most_through a b c h k = omega (arith, ints)

-- those of a transaction that is there
at_txn : (ps : List Processed) (b : Batch) (j i : ℕ) (t : Txn) → slice_get b.txns j ≡ Some t
    → explaining_writes ps b j i ≡ explaining_range (all_written ps) b.version j t.snapshot (slice_get t.reads i)
at_txn ps b j i t at = ap (λ (o : Option Txn). explaining_txn (all_written ps) b.version j o i) at

module _ (window : ℤ) (ps : List Processed) (p : Processed) (chain : IsChain window (ps ++ p ∷ [])) (j : ℕ) (t : Txn) where
  -- an older write explains a conflict exactly if it hits the range
  older : (range : Range)
      → list_any (explains p.batch.version j t.snapshot range) (all_written ps) ≡ is_hit (writes ps) t range
  older range =
      any_same (explains p.batch.version j t.snapshot range)
      (λ (w : Write). ranges_meet range w.range && int_lt t.snapshot w.version) without_origin (all_written ps)
      (All-weaker (IsWrittenAt (λ v. v <ℤ p.batch.version))
      (λ (w : Written). explains p.batch.version j t.snapshot range w ≡ (ranges_meet range w.range && int_lt t.snapshot w.version))
      (λ w below. explains_older p.batch.version j t.snapshot range w below) (all_written ps)
      (all_at (λ v. v <ℤ p.batch.version) ps (versions_below window ps p chain)))
      ∙ ap (list_any (λ (w : Write). ranges_meet range w.range && int_lt t.snapshot w.version)) (same_writes ps)

  some_explains : (range : Range)
      → list_any (explains p.batch.version j t.snapshot range) (all_written (ps ++ p ∷ []))
      ≡ (is_hit (writes ps) t range || meets_earlier (earlier p.batch p.reply j) range)
  some_explains range =
      let test = explains p.batch.version j t.snapshot range in
      ap (list_any test)
      (flat_map-append written_in ps (p ∷ []) ∙ ap (λ (ws : List Written). all_written ps ++ ws) (append-nil (written_in p)))
      ∙ list_any-append test (all_written ps) (written_in p)
      ∙ ap (λ b. b || list_any test (written_in p)) (older range)
      ∙ ap (λ b. is_hit (writes ps) t range || b)
      (any_earlier p.proxy p.batch.version j t.snapshot range 0 j p.batch.txns p.reply.entries (omega arith))

  explained_range : (o : Option Range)
      → (IsSomeAnd o (λ range. Any (λ w. Meets range w.range × (t.snapshot <ℤ w.version)) (writes ps))
      ⊎ IsSomeAnd o (λ range. Any (Meets range) (earlier p.batch p.reply j)))
      ↔ (explaining_range (all_written (ps ++ p ∷ [])) p.batch.version j t.snapshot o ≢ [])
  explained_range None = (λ h. elim h [ inl k ↦ absurd k | inr k ↦ absurd k ], λ h. absurd (h refl))
  explained_range (Some range) =
      let test = explains p.batch.version j t.snapshot range in
      let all = all_written (ps ++ p ∷ []) in
      let hit = is_hit (writes ps) t range in
      let met = meets_earlier (earlier p.batch p.reply j) range in (
        λ h. elim h [
          | inl k ↦ some_left test all (some_explains range ∙ or_left hit met (test_from_range_hit (writes ps) t range k))
          | inr k ↦ some_left test all
              (some_explains range
              ∙ or_right hit met (test_from_any (Meets range) (ranges_meet range) (earlier p.batch p.reply j) (test_from_meets range) k))
        ],
        λ h. elim (or_either hit met (sym (some_explains range) ∙ any_if_left test all h)) [
          | inl k ↦ inl (range_hit_from_test (writes ps) t range k)
          | inr k ↦ inr (any_from_test (Meets range) (ranges_meet range) (earlier p.batch p.reply j) (meets_from_test range) k)
        ],
      )

  pub explained_if_in_conflict : (i : ℕ) → slice_get p.batch.txns j ≡ Some t
      → (IsHit (writes ps) t i ⊎ MeetsEarlier (earlier p.batch p.reply j) t i)
      ↔ (explaining_writes (ps ++ p ∷ []) p.batch j i ≢ [])
  explained_if_in_conflict i at =
      let same = at_txn (ps ++ p ∷ []) p.batch j i t at in
      let by_range = explained_range (slice_get t.reads i) in
      (λ h e. by_range.0 h (sym same ∙ e), λ h. by_range.1 (λ e. h (same ∙ e)))

pub each_conflict_explained : (window : ℤ) (ps : List Processed) (p : Processed) → IsChain window (ps ++ p ∷ [])
    → (j : ℕ) (e : Entry) → slice_get p.reply.entries j ≡ Some e → e.verdict ≡ Conflict
    → (i : ℕ) × (explaining_writes (ps ++ p ∷ []) p.batch j i ≢ [])
each_conflict_explained window ps p chain j e at conflict =
    let own = chain ps p [] refl in
    let within = slice_get_within p.reply.entries j e at in
    let found = some_at p.batch.txns j (omega (arith, within, own.judged.count)) in
    let verdict : HasVerdict (edge window p.batch) (writes ps) (earlier p.batch p.reply j) found.0 Conflict =
    subst (λ (v : Verdict). HasVerdict (edge window p.batch) (writes ps) (earlier p.batch p.reply j) found.0 v) conflict
    (own.judged.verdicts j found.0 e found.1 at) in
    let met : IsInConflict (writes ps) (earlier p.batch p.reply j) found.0 = verdict.1 in
    (met.0, (explained_if_in_conflict window ps p chain j found.0 met.0 found.1).0 met.1)

pub dropped_explain_nothing : (window : ℤ) (ps : List Processed) (h : HistoryState) → IsChain window ps → Keeps ps h
    → (b : Batch) → newest_of h.kept ≡ Some b
    → (j i : ℕ) (t : Txn) → slice_get b.txns j ≡ Some t → h.edge ≤ℤ t.snapshot
    → explaining_writes ps b j i ≡ explaining_writes h.kept b j i
dropped_explain_nothing window ps h chain keeps b newest j i t at young =
    at_txn ps b j i t at ∙ by_range (slice_get t.reads i) ∙ sym (at_txn h.kept b j i t at)
  where
    all_old : All (λ (q : Processed). (q.batch.version <ℤ b.version) × (q.batch.version ≤ℤ t.snapshot)) keeps.dropped
    all_old =
        let last = newest_last h.kept b newest in
        let split : ps ≡ (keeps.dropped ++ last.0) ++ last.1 ∷ [] =
        keeps.all ∙ ap (λ (xs : List Processed). keeps.dropped ++ xs) last.2
        ∙ sym (append_assoc keeps.dropped last.0 (last.1 ∷ [])) in
        let before = All-left (Precedes last.1) keeps.dropped last.0
        (versions_below window (keeps.dropped ++ last.0) last.1 (subst (IsChain window) split chain)) in
        All-both (λ (q : Processed). q.batch.version <ℤ b.version) (λ (q : Processed). q.batch.version ≤ℤ t.snapshot) keeps.dropped
        (All-weaker (Precedes last.1) (λ (q : Processed). q.batch.version <ℤ b.version)
        (λ q lower. subst (λ (x : Batch). q.batch.version <ℤ x.version) last.3 lower) keeps.dropped before)
        (All-weaker (λ (q : Processed). q.batch.version ≤ℤ h.edge) (λ (q : Processed). q.batch.version ≤ℤ t.snapshot)
        (λ q low. at_most_through q.batch.version h.edge t.snapshot low young) keeps.dropped keeps.below)

    by_range : (o : Option Range) → explaining_range (all_written ps) b.version j t.snapshot o
        ≡ explaining_range (all_written h.kept) b.version j t.snapshot o
    by_range None = refl
    by_range (Some range) =
        let test = explains b.version j t.snapshot range in
        let none : filter test (all_written keeps.dropped) ≡ [] =
        filter_none test (all_written keeps.dropped)
        (All-weaker (IsWrittenAt (λ v. (v <ℤ b.version) × (v ≤ℤ t.snapshot)))
        (λ (w : Written). explains b.version j t.snapshot range w ≡ false)
        (λ w old. explains_none b.version j t.snapshot range w (not_equal_below w.version b.version old.0)
        (not_below_at_most t.snapshot w.version old.1)) (all_written keeps.dropped)
        (all_at (λ v. (v <ℤ b.version) × (v ≤ℤ t.snapshot)) keeps.dropped all_old)) in
        ap (λ (qs : List Processed). filter test (all_written qs)) keeps.all
        ∙ ap (filter test) (flat_map-append written_in keeps.dropped h.kept)
        ∙ filter-append test (all_written keeps.dropped) (all_written h.kept)
        ∙ ap (λ (ws : List Written). ws ++ filter test (all_written h.kept)) none
