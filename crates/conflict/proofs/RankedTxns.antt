-- A batch is judged the same way by its ranges and by what these are ranked as.
use Rattle.std.proofs.Common.{◌≡◌, ℕ, ◌+◌, ◌≤◌, Bool, true, false, cond, ◌||◌, List, [], ◌∷◌, ◌++◌, get_or, map, take, refl, sym, ap, ap₂, subst, ◌∙◌, inl, inr}
use Rattle.std.specs.Prelude.{All, Contains}
use Rattle.std.specs.List.{list_any}
use Rattle.std.proofs.lemmas.List.{length-map, map-append}
use Rattle.std.proofs.lemmas.List.Elements.{All-append, All-contains, All-head, All-tail}
use Rattle.keys.specs.Range.{Meets, ranges_meet}
use Rattle.keys.specs.Singles.{IsRankedAs}
use Rattle.keys.specs.declared.range.Range.{Range}
use Rattle.keys.proofs.callers.Meeting.{meets_by_ends, meets_from_test}
use Rattle.keyspace.specs.storage.BatchRanges.{ranges_in, ranges_of_txn, writes_in}
use Rattle.keyspace.specs.Judge.{in_conflict_at, meets_earlier, places_from}
use Rattle.keyspace.specs.Writes.{counted_ranges}
use Rattle.keyspace.specs.declared.reply.Entry.{Entry}
use Rattle.keyspace.specs.declared.reply.Verdict.{Verdict}
use Rattle.keyspace.specs.declared.reply.Verdict.TheVariants.{Conflict, TooOld, Committed}
use Rattle.keyspace.specs.declared.txn.TheConstants.{MAX_RANGES}
use Rattle.keyspace.specs.declared.txn.Txn.{Txn}
use Rattle.conflict.specs.InBatch.{by_verdict, in_batch, in_batches, IsShapedAs}
use Rattle.conflict.proofs.JudgedTo.{all_counted}
use Rattle.conflict.proofs.Parts.{all_split}

module _ (ranked_as : Range → Range) where
  -- the transaction with what its ranges are ranked as
  abbrev pub ranked_txn : Txn → Txn
  ranked_txn t = record {
    snapshot = t.snapshot;
    marked = t.marked;
    reads = map ranked_as t.reads;
    writes = map ranked_as t.writes;
    natural = t.natural;
    few_reads = subst (λ (n : ℕ). n ≤ MAX_RANGES) (sym (length-map t.reads ranked_as)) t.few_reads;
    few_writes = subst (λ (n : ℕ). n ≤ MAX_RANGES) (sym (length-map t.writes ranked_as)) t.few_writes;
  }

  abbrev pub ranked_txns : List Txn → List Txn
  ranked_txns txns = map ranked_txn txns

  pub shaped : (t : Txn) → IsShapedAs t (ranked_txn t)
  shaped t = record {
    reads = length-map t.reads ranked_as;
    writes = length-map t.writes ranked_as;
    marked = refl;
  }

  pub ranked_ranges : (txns : List Txn) → ranges_in (ranked_txns txns) ≡ map ranked_as (ranges_in txns)
  ranked_ranges [] = refl
  ranked_ranges (t ∷ txns) =
      ap₂ ◌++◌ (sym (map-append ranked_as t.reads t.writes)) (ranked_ranges txns)
      ∙ sym (map-append ranked_as (ranges_of_txn t) (ranges_in txns))

  -- tests that agree on each range agree on all
  module _ (test : Range → Bool) where
    any_equal : (reads : List Range) → All (λ r. test (ranked_as r) ≡ test r) reads
        → list_any test (map ranked_as reads) ≡ list_any test reads
    any_equal [] same = refl
    any_equal (r ∷ reads) same =
        ap₂ (λ a b. a || b) (All-head (λ x. test (ranked_as x) ≡ test x) r reads same)
        (any_equal reads (All-tail (λ x. test (ranked_as x) ≡ test x) r reads same))

    places_equal : (i : ℕ) (reads : List Range) → All (λ r. test (ranked_as r) ≡ test r) reads
        → places_from i test (map ranked_as reads) ≡ places_from i test reads
    places_equal i [] same = refl
    places_equal i (r ∷ reads) same =
        ap₂ (λ b places. cond b (i ∷ places) places) (All-head (λ x. test (ranked_as x) ≡ test x) r reads same)
        (places_equal (i + 1) reads (All-tail (λ x. test (ranked_as x) ≡ test x) r reads same))

  -- so a transaction is judged the same way
  in_batch_equal : (written : List Range) (t : Txn) (e : Entry)
      → All (λ r. meets_earlier written (ranked_as r) ≡ meets_earlier written r) t.reads
      → in_batch written (ranked_txn t) e ≡ in_batch written t e
  in_batch_equal written t e same = by e.verdict
    where
      by : (v : Verdict) → by_verdict v written (ranked_txn t) e ≡ by_verdict v written t e
      by Committed =
          ap₂ (λ met places. cond met (in_conflict_at (cond t.marked (take 1 places) [])) e)
          (any_equal (meets_earlier written) t.reads same) (places_equal (meets_earlier written) 0 t.reads same)
      by TooOld = refl
      by Conflict = refl

  map_itself : (ranges : List Range) → All (λ r. ranked_as r ≡ r) ranges → map ranked_as ranges ≡ ranges
  map_itself [] same = refl
  map_itself (r ∷ ranges) same =
      ap₂ (λ x rs. x ∷ rs) (All-head (λ x. ranked_as x ≡ x) r ranges same)
      (map_itself ranges (All-tail (λ x. ranked_as x ≡ x) r ranges same))

-- ranges that don't overlap don't pass the test
unmet : (a b : Range) → ¬ Meets a b → ranges_meet a b ≡ false
unmet a b none = by (ranges_meet a b) refl
  where
    by : (v : Bool) → ranges_meet a b ≡ v → v ≡ false
    by true determined = absurd (none (meets_from_test a b determined))
    by false determined = refl

none_met : (range : Range) (written : List Range) → All (λ w. ¬ Meets range w) written
    → meets_earlier written range ≡ false
none_met range [] none = refl
none_met range (w ∷ written) none =
    ap₂ (λ a b. a || b) (unmet range w (All-head (λ x. ¬ Meets range x) w written none))
    (none_met range written (All-tail (λ x. ¬ Meets range x) w written none))

-- what holds of the written ranges of the batch that these are among
module _ (ranked_as : Range → Range) (all : List Range) where
  met_equal : (written : List Range) (range : Range) → All (Contains all) written
      → IsRankedAs all range (ranked_as range)
      → meets_earlier written (ranked_as range) ≡ meets_earlier written range
  met_equal written range among (inl same) = ap (meets_earlier written) same
  met_equal written range among (inr (empty, none)) =
      none_met (ranked_as range) written
      (λ k d lt met. ((meets_by_ends (ranked_as range) (get_or written k d)).0 met).0 empty)
      ∙ sym (none_met range written
      (λ k d lt. All-contains (λ w. ¬ Meets range w) all (get_or written k d) none (among k d lt)))

  pub batches_equal : (written : List Range) (txns : List Txn) (entries : List Entry) → All (Contains all) written
      → All (Contains all) (writes_in txns) → All (λ w. ranked_as w ≡ w) (writes_in txns)
      → All (λ r. IsRankedAs all r (ranked_as r)) (ranges_in txns)
      → in_batches written (ranked_txns ranked_as txns) entries ≡ in_batches written txns entries
  batches_equal written [] entries among writes itself ranked = refl
  batches_equal written (t ∷ txns) [] among writes itself ranked = refl
  batches_equal written (t ∷ txns) (e ∷ entries) among writes itself ranked =
      let d = in_batch written t e in
      let own = all_split (Contains all) t.writes (writes_in txns) writes in
      let stay = all_split (λ w. ranked_as w ≡ w) t.writes (writes_in txns) itself in
      let as_ranked = all_split (λ r. IsRankedAs all r (ranked_as r)) (ranges_of_txn t) (ranges_in txns) ranked in
      let reads = (all_split (λ r. IsRankedAs all r (ranked_as r)) t.reads t.writes as_ranked.0).0 in
      let same = in_batch_equal ranked_as written t e
      (λ k i lt. met_equal written (get_or t.reads k i) among (reads k i lt)) in
      ap₂ (λ (x : Entry) (ws : List Range).
      x ∷ in_batches (written ++ counted_ranges x.verdict ws) (ranked_txns ranked_as txns) entries) same
      (map_itself ranked_as t.writes stay.0)
      ∙ ap (λ rest. d ∷ rest)
      (batches_equal (written ++ counted_ranges d.verdict t.writes) txns entries
      (All-append (Contains all) written (counted_ranges d.verdict t.writes) among
      (all_counted (Contains all) d.verdict t.writes own.0))
      own.1 stay.1 as_ranked.1)
