-- Ranges that are ranked once their begins are sorted, numbered and reached.
use Rattle.std.proofs.Common.{◌≡◌, ℕ, ◌<◌, Bool, true, false, List, ◌++◌, length, get_or, take, drop, replicate, refl, sym, ap, subst, ◌∙◌, inl, inr, arith}
use Rattle.std.specs.Prelude.{All, AllPairs, Contains, Some, slice_get}
use Rattle.std.specs.List.Sorted.{IsPermutation}
use Rattle.std.proofs.Math.Seq.{take-append_seam}
use Rattle.std.proofs.lemmas.List.{ext_get_or, get_or-map, get_or-replicate, length-map, length-replicate}
use Rattle.std.proofs.lemmas.List.Elements.{All-contains, Contains-get_or}
use Rattle.std.proofs.lemmas.List.Sorted.{Contains-permutation, IsPermutation-sym}
use Rattle.std.proofs.lemmas.Option.{get_or_from_slice_get, same_Some, slice_get-get_or, slice_get_cases, slice_get_within}
use Rattle.keys.specs.Key.{IsAtMost}
use Rattle.keys.specs.Range.{is_filled}
use Rattle.keys.specs.declared.range.Range.{Range}
use Rattle.keys.specs.declared.gap_runs.begin_sort.HeadedIndex.{HeadedIndex}
use Rattle.keys.specs.GapRuns.{rank, run_or_none, runs_of, filled_from, AreBegins, AreInOrder, BeginsFirst, HaveBegin, IsBeginIn}
use Rattle.keys.specs.Sorting.{begin_at, begin_of, indices_of, AreInBeginOrder}
use Rattle.keys.specs.Numbering.{end_at, end_of, run_at, AreEachOnce, HasRun, IsFilledAt, OthersStay}
use Rattle.keys.proofs.callers.Meeting.{before_unless_empty, not_empty}
use Rattle.keys.proofs.Filled.{filled_at, filled_in}
use Rattle.keys.proofs.Kept.{not_true}
use Rattle.keys.proofs.Sorting.{no_headed}
use Rattle.keys.proofs.Reaching.{begins_rise}
use Rattle.keys.proofs.Values.{begin_of_listed, contains_value, value_of}

-- the ranges that aren't empty are listed in the order of their begins, which are these keys
module _ (ranges : List Range) (headed : List HeadedIndex) (keys : List (List ℕ))
    (moved : IsPermutation (filled_from 0 ranges) (indices_of headed)) (once : AreEachOnce ranges headed keys) where
  listed : (index : ℕ) → IsFilledAt ranges index → Contains (indices_of headed) index
  listed index filled =
      Contains-permutation (filled_from 0 ranges) (indices_of headed) index moved (filled_in ranges index filled)

  listed_is_filled : (index : ℕ) → Contains (indices_of headed) index → IsFilledAt ranges index
  listed_is_filled index has =
      filled_at ranges index
      (Contains-permutation (indices_of headed) (filled_from 0 ranges) index
      (IsPermutation-sym (filled_from 0 ranges) (indices_of headed) moved) has)

  have_begins : All (HaveBegin keys) ranges
  have_begins k d lt filled =
      let r = get_or ranges k d in
      let at : slice_get ranges k ≡ Some r = slice_get-get_or ranges k d lt in
      let begin : begin_at ranges k ≡ r.begin = ap begin_of at in
      subst (Contains keys) begin ((once.same (begin_at ranges k)).0
      (begin_of_listed ranges headed k (listed k (r, at, before_unless_empty r filled))))

  begins_only : All (IsBeginIn ranges) keys
  begins_only k d lt =
      let key = get_or keys k d in
      let h = value_of (λ (x : HeadedIndex). begin_at ranges x.index) headed key
      ((once.same key).1 (Contains-get_or keys k d lt)) in
      let index = h.0.index in
      let r = listed_is_filled index (contains_value (λ (x : HeadedIndex). x.index) headed h.0 h.1) in (
        index,
        r.0,
        slice_get_within ranges index r.0 r.1,
        get_or_from_slice_get ranges index r.0 r.0 r.1,
        (not_empty r.0 r.2, sym (ap begin_of r.1) ∙ h.2),
      )

  pub are_begins : AreBegins ranges keys
  are_begins = record { rising = once.rising; all = have_begins; only = begins_only }

  -- the run of a range, whether or not it is empty
  run_by : (runs : List (ℕ × ℕ)) (index : ℕ) (range : Range) (filled : Bool) → is_filled range ≡ filled
      → slice_get ranges index ≡ Some range → All (HasRun ranges keys runs) (indices_of headed)
      → (¬ Contains (indices_of headed) index → run_at runs index ≡ (0, 0))
      → run_at runs index ≡ run_or_none keys range
  run_by runs index range true e at reached others =
      rw e
      (All-contains (HasRun ranges keys runs) (indices_of headed) index reached (listed index (range, at, e))
      ∙ ap (λ key. (rank keys key, rank keys (end_at ranges index))) (ap begin_of at)
      ∙ ap (λ key. (rank keys range.begin, rank keys key)) (ap end_of at))
  run_by runs index range false e at reached others =
      rw e (others (λ has.
      let there = listed_is_filled index has in
      not_true (is_filled range) e
      (subst (λ r. is_filled r ≡ true) (same_Some there.0 range (sym there.1 ∙ at)) there.2)))

  pub are_runs : (before numbered runs : List (ℕ × ℕ)) → before ≡ replicate (length ranges) (0, 0)
      → length runs ≡ length before → OthersStay headed before numbered → OthersStay headed numbered runs
      → All (HasRun ranges keys runs) (indices_of headed) → runs ≡ runs_of keys ranges
  are_runs before numbered runs none count first second reached =
      let long : length runs ≡ length ranges =
      count ∙ ap length none ∙ length-replicate (length ranges) (0, 0) in
      ext_get_or (0, 0) runs (runs_of keys ranges) (long ∙ sym (length-map ranges (run_or_none keys)))
      (λ i lt. elim ((slice_get_cases ranges i).1) [
        | inl (range, short, at, there) ↦
            run_by runs i range (is_filled range) refl at reached (λ unlisted. second i unlisted ∙ first i unlisted
            ∙ ap (λ rs. run_at rs i) none ∙ get_or-replicate (length ranges) i (0, 0) (0, 0) short)
            ∙ ap (run_or_none keys) (sym there) ∙ sym (get_or-map (run_or_none keys) ranges i range (0, 0) short)
        | inr (past, none) ↦ absurd (omega arith)
      ])

-- the indices are in the order of the begins
pub begins_first : (ranges : List Range) (headed : List HeadedIndex) → AreInBeginOrder ranges headed
    → AllPairs (BeginsFirst ranges) (indices_of headed)
begins_first ranges headed sorted = λ i j d lt within a b at_i at_j.
    let n = length-map {B = ℕ} headed (λ h. h.index) in
    let index = λ (h : HeadedIndex). h.index in
    let i_lt : i < length headed = omega (arith, n) in
    let j_lt : j < length headed = omega (arith, n) in
    let of_i = get_or-map index headed i no_headed d i_lt in
    let of_j = get_or-map index headed j no_headed d j_lt in
    let begin_i : begin_at ranges (get_or headed i no_headed).index ≡ a.begin =
    ap (begin_at ranges) (sym of_i) ∙ ap begin_of at_i in
    let begin_j : begin_at ranges (get_or headed j no_headed).index ≡ b.begin =
    ap (begin_at ranges) (sym of_j) ∙ ap begin_of at_j in
    subst (λ key. IsAtMost key b.begin) begin_i
    (subst (λ key. IsAtMost (begin_at ranges (get_or headed i no_headed).index) key) begin_j
    (begins_rise ranges headed i j no_headed sorted (omega arith) j_lt))

pub are_in_order : (ranges : List Range) (headed : List HeadedIndex) → AreInBeginOrder ranges headed
    → IsPermutation (filled_from 0 ranges) (indices_of headed) → AreInOrder ranges (indices_of headed)
are_in_order ranges headed sorted moved =
    record { in_order = begins_first ranges headed sorted; all = moved }

-- a list that was written over all of another
pub written_entire : {X : Type 0} (n : ℕ) (new old : List X) → length new ≡ n
    → take n (new ++ drop (length new) old) ≡ new
written_entire n new old is =
    subst (λ k. take k (new ++ drop (length new) old) ≡ new) is (take-append_seam new (drop (length new) old))
