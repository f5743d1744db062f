-- How far the runs of ranges reach, once the begins are numbered.
use Rattle.std.proofs.Common.{◌≡◌, ℕ, ◌+◌, ◌-◌, ◌<◌, ◌≤◌, List, [], ◌∷◌, ◌++◌, length, get_or, set, take, drop, sym, ap, subst, ◌∙◌, inl, inr, arith, not, length-drop, get_or-drop}
use Rattle.std.specs.Prelude.{All, Contains, Some, slice_get}
use Rattle.std.proofs.lemmas.Bool.{cases_eq, cases_lt}
use Rattle.std.proofs.lemmas.Cmp.{nat_list_cmp_total}
use Rattle.std.proofs.lemmas.List.{get_or_default, get_or-set_other, get_or-set_same, get_or-take, map_push, take_more, length-take-le}
use Rattle.std.proofs.lemmas.List.Elements.{All-contains, All-nil, All-push, Contains-get_or}
use Rattle.std.proofs.lemmas.List.Sorted.{ranks_by, sorted_far}
use Rattle.keys.specs.Key.{is_before, IsBefore, IsAtMost}
use Rattle.keys.specs.declared.range.Range.{Range}
use Rattle.keys.specs.declared.gap_runs.begin_sort.HeadedIndex.{HeadedIndex}
use Rattle.keys.specs.Range.{IsSingle}
use Rattle.keys.specs.GapRuns.{rank}
use Rattle.keys.specs.Sorting.{begin_at, begin_of, indices_of, AreInBeginOrder}
use Rattle.keys.specs.Numbering.{end_at, end_of, run_at, AreEachOnce, AreNumbered, HasRun, IsFilledAt, IsNumbered, OthersStay}
use Rattle.keys.proofs.callers.KeyOrder.{at_most_before, before_at_most, not_before_if}
use Rattle.keys.proofs.Sorting.{no_headed}
use Rattle.keys.proofs.Ranking.{rank_after, rank_same}
use Rattle.keys.proofs.SingleKeys.{rank_after_key}
use Rattle.keys.proofs.Values.{begin_of_listed, contains_value, value_of}

-- there is a range at the index, and it is a single key
abbrev pub IsSingleAt : List Range → ℕ → Type 0
IsSingleAt ranges index = (range : Range) × (slice_get ranges index ≡ Some range) × IsSingle range

-- The runs at all of the indices begin with the numbers of their ranges' begins. Those at the indices that are done end
-- where their ranges end, and so do those of single keys.
pub record AreReached (ranges : List Range) (keys : List (List ℕ)) (all done : List ℕ) (runs : List (ℕ × ℕ)) : Type 0 where
  pub begins : All (λ i. (run_at runs i).0 ≡ rank keys (begin_at ranges i)) all
  pub ends : All (λ i. (run_at runs i).1 ≡ rank keys (end_at ranges i)) done
  pub singles : (i : ℕ) → Contains all i → IsSingleAt ranges i → (run_at runs i).1 ≡ rank keys (end_at ranges i)

-- a single key ends before the next other begin
single_reached : (ranges : List Range) (headed : List HeadedIndex) (keys : List (List ℕ)) (begins : ℕ)
    (runs : List (ℕ × ℕ)) → AreNumbered ranges headed keys begins runs → (i : ℕ) → Contains (indices_of headed) i
    → IsSingleAt ranges i → (run_at runs i).1 ≡ rank keys (end_at ranges i)
single_reached ranges headed keys begins runs are i listed (range, at, single) =
    let key = begin_at ranges i in
    let end : end_at ranges i ≡ key ++ 0 ∷ [] =
    ap end_of at ∙ (single ∙ ap (λ (k : List ℕ). k ++ 0 ∷ []) (sym (ap begin_of at))) in
    let has = (are.each_once.same key).0 (begin_of_listed ranges headed i listed) in
    ap (λ (run : ℕ × ℕ). run.1) (All-contains (IsNumbered ranges keys runs) (indices_of headed) i are.numbers listed)
    ∙ sym (ap (rank keys) end ∙ rank_after_key keys key are.each_once.rising has)

pub none_reached : (ranges : List Range) (headed : List HeadedIndex) (keys : List (List ℕ)) (begins : ℕ)
    (runs : List (ℕ × ℕ)) → AreNumbered ranges headed keys begins runs
    → AreReached ranges keys (indices_of headed) [] runs
none_reached ranges headed keys begins runs are = record {
  begins = λ k d lt. ap (λ (run : ℕ × ℕ). run.0) (are.numbers k d lt);
  ends = All-nil (λ i. (run_at runs i).1 ≡ rank keys (end_at ranges i));
  singles = single_reached ranges headed keys begins runs are;
}

-- both sides of a run that is reached
pub all_reached : (ranges : List Range) (keys : List (List ℕ)) (all : List ℕ) (runs : List (ℕ × ℕ))
    → AreReached ranges keys all all runs → All (HasRun ranges keys runs) all
all_reached ranges keys all runs are k d lt =
    let i = get_or all k d in
    ap (λ n. (n, (run_at runs i).1)) (are.begins k d lt)
    ∙ ap (λ n. (rank keys (begin_at ranges i), n)) (are.ends k d lt)

-- a run more ends where its range ends
module _ (ranges : List Range) (keys : List (List ℕ)) (all done : List ℕ) (runs : List (ℕ × ℕ)) (index reached : ℕ)
    (were : AreReached ranges keys all done runs) (within : index < length runs)
    (is : reached ≡ rank keys (end_at ranges index)) where
  abbrev moved : List (ℕ × ℕ)
  moved = set runs index ((run_at runs index).0, reached)

  here : run_at moved index ≡ ((run_at runs index).0, reached)
  here = get_or-set_same runs index ((run_at runs index).0, reached) (0, 0) within

  begin_stays : (i : ℕ) → (run_at moved i).0 ≡ (run_at runs i).0
  begin_stays i = elim (cases_eq i index) [
    | inl same ↦
        subst (λ j. (run_at moved j).0 ≡ (run_at runs j).0) (sym same) (ap (λ (run : ℕ × ℕ). run.0) here)
    | inr other ↦ ap (λ (run : ℕ × ℕ). run.0)
        (get_or-set_other runs index i ((run_at runs index).0, reached) (0, 0) other)
  ]

  end_there : (i : ℕ) → (run_at runs i).1 ≡ rank keys (end_at ranges i)
      → (run_at moved i).1 ≡ rank keys (end_at ranges i)
  end_there i was = elim (cases_eq i index) [
    | inl same ↦
        subst (λ j. (run_at moved j).1 ≡ rank keys (end_at ranges j)) (sym same)
        (ap (λ (run : ℕ × ℕ). run.1) here ∙ is)
    | inr other ↦ ap (λ (run : ℕ × ℕ). run.1)
        (get_or-set_other runs index i ((run_at runs index).0, reached) (0, 0) other) ∙ was
  ]

  pub reached_next : AreReached ranges keys all (done ++ index ∷ []) moved
  reached_next = record {
    begins = λ k d lt. begin_stays (get_or all k d) ∙ were.begins k d lt;
    ends = All-push (λ i. (run_at moved i).1 ≡ rank keys (end_at ranges i)) done index
        (λ k d lt. end_there (get_or done k d) (were.ends k d lt)) (ap (λ (run : ℕ × ℕ). run.1) here ∙ is);
    singles = λ i has single. end_there i (were.singles i has single);
  }

-- the next of the ranges is reached
pub reached_more : (ranges : List Range) (keys : List (List ℕ)) (headed : List HeadedIndex) (i reached : ℕ)
    (runs : List (ℕ × ℕ)) → i < length headed
    → AreReached ranges keys (indices_of headed) (indices_of (take i headed)) runs
    → (get_or headed i no_headed).index < length runs
    → reached ≡ rank keys (end_at ranges (get_or headed i no_headed).index)
    → AreReached ranges keys (indices_of headed) (indices_of (take (i + 1) headed))
    (set runs (get_or headed i no_headed).index ((run_at runs (get_or headed i no_headed).index).0, reached))
reached_more ranges keys headed i reached runs below were within is =
    let d = get_or headed i no_headed in
    let now = set runs d.index ((run_at runs d.index).0, reached) in
    subst (λ hs. AreReached ranges keys (indices_of headed) (indices_of hs) now) (sym (take_more headed i no_headed below))
    (subst (λ is. AreReached ranges keys (indices_of headed) is now)
    (sym (map_push (λ (h : HeadedIndex). h.index) (take i headed) d))
    (reached_next ranges keys (indices_of headed) (indices_of (take i headed)) runs d.index reached were within is))

-- the next of the ranges is reached as it is, if it is a single key
pub single_more : (ranges : List Range) (keys : List (List ℕ)) (headed : List HeadedIndex) (i : ℕ) (runs : List (ℕ × ℕ))
    → i < length headed → AreReached ranges keys (indices_of headed) (indices_of (take i headed)) runs
    → IsSingleAt ranges (get_or headed i no_headed).index
    → AreReached ranges keys (indices_of headed) (indices_of (take (i + 1) headed)) runs
single_more ranges keys headed i runs below were single =
    let d = get_or headed i no_headed in
    let listed = contains_value (λ (h : HeadedIndex). h.index) headed d (Contains-get_or headed i no_headed below) in
    subst (λ hs. AreReached ranges keys (indices_of headed) (indices_of hs) runs) (sym (take_more headed i no_headed below))
    (subst (λ is. AreReached ranges keys (indices_of headed) is runs)
    (sym (map_push (λ (h : HeadedIndex). h.index) (take i headed) d)) (record {
      begins = were.begins;
      ends = All-push (λ i. (run_at runs i).1 ≡ rank keys (end_at ranges i)) (indices_of (take i headed)) d.index were.ends
          (were.singles d.index listed single);
      singles = were.singles;
    }))

-- a later range doesn't begin before an earlier one
pub begins_rise : (ranges : List Range) (headed : List HeadedIndex) (i j : ℕ) (d : HeadedIndex) → AreInBeginOrder ranges headed
    → i ≤ j → j < length headed
    → IsAtMost (begin_at ranges (get_or headed i d).index) (begin_at ranges (get_or headed j d).index)
begins_rise ranges headed i j d sorted le lt =
    let begin = λ (h : HeadedIndex). begin_at ranges h.index in
    ap not
    (sorted_far (λ a b. is_before (begin a) (begin b)) (ranks_by nat_list_cmp_total begin) headed sorted i j d le lt)

-- a range that isn't empty begins before its end
pub begin_before_end : (ranges : List Range) (index : ℕ) → IsFilledAt ranges index
    → IsBefore (begin_at ranges index) (end_at ranges index)
begin_before_end ranges index (range, at, filled) = rw at filled

-- that many first ranges begin below the end, and the others don't
pub record AreSplit (ranges : List Range) (headed : List HeadedIndex) (end : List ℕ) (m : ℕ) : Type 0 where
  pub below : (k : ℕ) (d : HeadedIndex) → k < m → k < length headed
      → IsBefore (begin_at ranges (get_or headed k d).index) end
  pub following : (k : ℕ) (d : HeadedIndex) → m ≤ k → k < length headed
      → IsAtMost end (begin_at ranges (get_or headed k d).index)

-- the ranges up to one begin below its end, and so do as many of the others as are counted
pub split_at : (ranges : List Range) (headed : List HeadedIndex) (i n : ℕ) (rest : List HeadedIndex)
    → AreInBeginOrder ranges headed
    → i < length headed → IsFilledAt ranges (get_or headed i no_headed).index → rest ≡ drop (i + 1) headed
    → n ≤ length rest
    → All (λ h. IsBefore (begin_at ranges h.index) (end_at ranges (get_or headed i no_headed).index)) (take n rest)
    → All (λ h. IsAtMost (end_at ranges (get_or headed i no_headed).index) (begin_at ranges h.index)) (drop n rest)
    → AreSplit ranges headed (end_at ranges (get_or headed i no_headed).index) (i + 1 + n)
split_at ranges headed i n rest sorted lt filled is few below following =
    let end = end_at ranges (get_or headed i no_headed).index in
    let long : length rest ≡ length headed - (i + 1) = ap length is ∙ length-drop (i + 1) headed in
    let at : (k : ℕ) (d : HeadedIndex) → get_or rest k d ≡ get_or headed (i + 1 + k) d =
    λ k d. ap (λ hs. get_or hs k d) is ∙ get_or-drop (i + 1) headed k d in
    record {
      below = λ k d first k_lt.
          elim (cases_lt i k) [
            | inl past ↦
                let j = k - (i + 1) in
                let short : j < n = omega arith in
                let same : i + 1 + j ≡ k = omega arith in
                subst (λ q. IsBefore (begin_at ranges (get_or headed q d).index) end) same
                (subst (λ (h : HeadedIndex). IsBefore (begin_at ranges h.index) end)
                (get_or-take n rest j d short ∙ at j d)
                (below j d (omega (arith, length-take-le n rest few))))
            | inr up ↦
                subst (λ (h : HeadedIndex). IsBefore (begin_at ranges h.index) end)
                (get_or_default headed k no_headed d k_lt)
                (at_most_before (begin_at ranges (get_or headed k no_headed).index)
                (begin_at ranges (get_or headed i no_headed).index) end
                (begins_rise ranges headed k i no_headed sorted up lt)
                (begin_before_end ranges (get_or headed i no_headed).index filled))
          ];
      following = λ k d from k_lt.
          let j = k - (i + 1 + n) in
          let same : i + 1 + (n + j) ≡ k = omega arith in
          subst (λ q. IsAtMost end (begin_at ranges (get_or headed q d).index)) same
          (subst (λ (h : HeadedIndex). IsAtMost end (begin_at ranges h.index)) (get_or-drop n rest j d ∙ at (n + j) d)
          (following j d (omega (arith, length-drop n rest))));
    }

-- a key is the begin of some range listed
key_place : (ranges : List Range) (headed : List HeadedIndex) (keys : List (List ℕ)) (key : List ℕ)
    → AreEachOnce ranges headed keys → Contains keys key
    → (k : ℕ) × (d : HeadedIndex) × (k < length headed) × (begin_at ranges (get_or headed k d).index ≡ key)
key_place ranges headed keys key once has =
    let h = value_of (λ (x : HeadedIndex). begin_at ranges x.index) headed key ((once.same key).1 has) in
    (h.1.0, h.0, h.1.1, ap (λ (x : HeadedIndex). begin_at ranges x.index) h.1.2 ∙ h.2)

-- the rank of the end is that of the first begin that isn't below it
pub rank_of_next : (ranges : List Range) (headed : List HeadedIndex) (keys : List (List ℕ)) (end : List ℕ) (m : ℕ)
    → AreInBeginOrder ranges headed → AreEachOnce ranges headed keys → AreSplit ranges headed end m
    → m < length headed → rank keys (begin_at ranges (get_or headed m no_headed).index) ≡ rank keys end
rank_of_next ranges headed keys end m sorted once split lt =
    let next = begin_at ranges (get_or headed m no_headed).index in
    rank_same keys next end (λ q d q_lt.
    let place = key_place ranges headed keys (get_or keys q d) once (Contains-get_or keys q d q_lt) in
    subst (λ key. is_before key next ≡ is_before key end) place.3
    (elim (cases_lt place.0 m) [
      | inl first ↦
          let before = split.below place.0 place.1 first place.2 in
          let same = before_at_most _ end next before (split.following m no_headed (omega arith) lt) in
          same ∙ sym before
      | inr later ↦
          let following = split.following place.0 place.1 later place.2 in
          let rise = subst (λ (h : HeadedIndex). IsAtMost next (begin_at ranges h.index))
          (get_or_default headed place.0 no_headed place.1 place.2)
          (begins_rise ranges headed m place.0 no_headed sorted later place.2) in
          not_before_if next _ rise ∙ sym (not_before_if end _ following)
    ]))

-- the rank of an end that all begins are below
pub rank_of_last : (ranges : List Range) (headed : List HeadedIndex) (keys : List (List ℕ)) (end : List ℕ) (m : ℕ)
    → AreEachOnce ranges headed keys → AreSplit ranges headed end m → length headed ≤ m
    → length keys ≡ rank keys end
rank_of_last ranges headed keys end m once split all =
    sym (rank_after keys end (λ q d q_lt.
    let place = key_place ranges headed keys (get_or keys q d) once (Contains-get_or keys q d q_lt) in
    subst (λ key. IsBefore key end) place.3 (split.below place.0 place.1 (omega (arith, place.2)) place.2)))

-- the runs of the ranges that aren't listed stay when that of one that is listed is set
pub others_at : (headed : List HeadedIndex) (index : ℕ) (runs now : List (ℕ × ℕ)) (run : ℕ × ℕ)
    → Contains (indices_of headed) index → OthersStay headed runs now → OthersStay headed runs (set now index run)
others_at headed index runs now run has stay i none =
    get_or-set_other now index i run (0, 0) (λ same. none (subst (Contains (indices_of headed)) (sym same) has))
    ∙ stay i none
