-- Ranges in the order of their begins get the numbers of these.
use Rattle.std.proofs.Common.{◌≡◌, ℕ, ◌+◌, ◌-◌, ◌<◌, ◌≤◌, List, [], ◌∷◌, ◌++◌, length, get_or, set, take, refl, sym, ap, subst, ◌∙◌, inl, inr, ◌⊎◌, arith}
use Rattle.std.specs.Prelude.{All, Contains}
use Rattle.std.proofs.lemmas.Bool.{cases_eq}
use Rattle.std.proofs.lemmas.List.{get_or-set_other, get_or-set_same, length_push, map_push, take_more}
use Rattle.std.proofs.lemmas.List.Elements.{All-contains, All-nil, All-push, Contains-append_left, Contains-get_or, Contains-push}
use Rattle.keys.specs.declared.range.Range.{Range}
use Rattle.keys.specs.declared.gap_runs.begin_sort.HeadedIndex.{HeadedIndex}
use Rattle.keys.specs.GapRuns.{rank}
use Rattle.keys.specs.Sorting.{begin_at, begins_of, indices_of, AreInBeginOrder}
use Rattle.keys.specs.Numbering.{AreNumbered, IsNumbered, OthersStay}
use Rattle.keys.proofs.Sorting.{no_headed}
use Rattle.keys.proofs.Kept.{EndsWith, Kept, KeptNext, IsNext, kept_none, kept_next, up_to_next}
use Rattle.keys.proofs.Values.{begin_of_listed}

-- the keys are the begins of the ranges listed, and the runs of these are numbered
pub record AreNumberedSoFar (ranges : List Range) (headed : List HeadedIndex) (keys : List (List ℕ)) (begins : ℕ)
    (runs : List (ℕ × ℕ)) : Type 0 where
  pub kept : Kept (begins_of ranges headed) keys
  pub count : begins ≡ length keys
  pub numbers : All (IsNumbered ranges keys runs) (indices_of headed)

pub none_numbered_yet : (ranges : List Range) (runs : List (ℕ × ℕ)) → AreNumberedSoFar ranges [] [] 0 runs
none_numbered_yet ranges runs =
    record { kept = kept_none; count = refl; numbers = All-nil (IsNumbered ranges [] runs) }

-- what a number more says
pub more_less_one : (more : ℕ) → 0 < more → more - 1 + 1 ≡ more
more_less_one more some = omega arith

-- one range more is numbered
module _ (ranges : List Range) (headed : List HeadedIndex) (d : HeadedIndex) (keys next : List (List ℕ)) (begins more : ℕ)
    (runs : List (ℕ × ℕ)) (were : AreNumberedSoFar ranges headed keys begins runs)
    (kept : KeptNext (begins_of ranges headed) (begin_at ranges d.index) keys next) (is : more ≡ length next)
    (within : d.index < length runs) where
  some : 0 < more
  some =
      let has : Contains next (begin_at ranges d.index) =
      (kept.kept.same (begin_at ranges d.index)).0 (Contains-push (begins_of ranges headed) (begin_at ranges d.index)) in
      let lt : has.0 < length next = has.1 in
      omega arith

  abbrev after : List (ℕ × ℕ)
  after = set runs d.index (more - 1, more)

  here : IsNumbered ranges next after d.index
  here =
      let last : more - 1 ≡ rank next (begin_at ranges d.index) = ap (λ n. n - 1) is ∙ sym kept.last in
      get_or-set_same runs d.index (more - 1, more) (0, 0) within
      ∙ ap (λ n. (more - 1, n)) (sym (more_less_one more some)) ∙ ap (λ n. (n, n + 1)) last

  there : (index : ℕ) → Contains (indices_of headed) index → IsNumbered ranges next after index
  there index has = elim (cases_eq index d.index) [
    | inl same ↦ subst (IsNumbered ranges next after) (sym same) here
    | inr other ↦
        get_or-set_other runs d.index index (more - 1, more) (0, 0) other
        ∙ All-contains (IsNumbered ranges keys runs) (indices_of headed) index were.numbers has
        ∙ ap (λ n. (n, n + 1))
        (sym (kept.stay (begin_at ranges index) (begin_of_listed ranges headed index has)))
  ]

  pub numbered_next : AreNumberedSoFar ranges (headed ++ d ∷ []) next more after
  numbered_next = record {
    kept = subst (λ ks. Kept ks next) (sym (map_push (λ (h : HeadedIndex). begin_at ranges h.index) headed d)) kept.kept;
    count = is;
    numbers = subst (All (IsNumbered ranges next after)) (sym (map_push (λ (h : HeadedIndex). h.index) headed d))
        (All-push (IsNumbered ranges next after) (indices_of headed) d.index
        (λ k i lt. there (get_or (indices_of headed) k i) (Contains-get_or (indices_of headed) k i lt)) here);
  }

-- the next range has the begin of the last one, or one begin more
abbrev pub IsCounted : List (List ℕ) → List ℕ → ℕ → ℕ → Type 0
IsCounted done key begins more =
    (EndsWith done key × (more ≡ begins)) ⊎ (¬ EndsWith done key × (more ≡ begins + 1))

-- the keys after the next range
next_keys : (done : List (List ℕ)) (key : List ℕ) (keys : List (List ℕ)) (begins more : ℕ) → begins ≡ length keys
    → IsCounted done key begins more
    → (next : List (List ℕ)) × IsNext done key keys next × (more ≡ length next)
next_keys done key keys begins more is (inl (ends, e)) = (keys, inl (ends, refl), e ∙ is)
next_keys done key keys begins more is (inr (differs, e)) = (
  keys ++ key ∷ [],
  inr (differs, refl),
  e ∙ ap (λ n. n + 1) is ∙ sym (length_push keys key),
)

-- some begin is counted
pub counted_some : (done : List (List ℕ)) (key : List ℕ) (keys : List (List ℕ)) (begins more : ℕ) → Kept done keys
    → begins ≡ length keys → IsCounted done key begins more → 0 < more
counted_some done key keys begins more kept is (inl (ends, e)) =
    let last = (kept.last key).0 ends in
    omega (arith, ap length last.1, length_push last.0 key)
counted_some done key keys begins more kept is (inr (differs, e)) = omega arith

-- no more begins are counted than ranges
pub counted_few : (done : List (List ℕ)) (key : List ℕ) (begins more i : ℕ) → begins ≤ i
    → IsCounted done key begins more → more ≤ i + 1
counted_few done key begins more i few (inl (ends, e)) = omega (arith, e)
counted_few done key begins more i few (inr (differs, e)) = omega (arith, e)

-- once all are
pub numbered_all : (ranges : List Range) (headed : List HeadedIndex) (keys : List (List ℕ)) (begins : ℕ)
    (runs : List (ℕ × ℕ)) → AreNumberedSoFar ranges headed keys begins runs → AreNumbered ranges headed keys begins runs
numbered_all ranges headed keys begins runs are = record {
  each_once = record { rising = are.kept.rising; same = are.kept.same };
  count = are.count;
  numbers = are.numbers;
}

-- the next of the ranges is numbered
pub numbered_more : (ranges : List Range) (all : List HeadedIndex) (i : ℕ) (keys : List (List ℕ)) (begins more : ℕ)
    (runs : List (ℕ × ℕ)) → i < length all → AreInBeginOrder ranges all
    → AreNumberedSoFar ranges (take i all) keys begins runs
    → IsCounted (begins_of ranges (take i all)) (begin_at ranges (get_or all i no_headed).index) begins more
    → (get_or all i no_headed).index < length runs
    → (next : List (List ℕ)) × AreNumberedSoFar ranges (take (i + 1) all) next more
    (set runs (get_or all i no_headed).index (more - 1, more))
numbered_more ranges all i keys begins more runs below sorted were counted within =
    let d = get_or all i no_headed in
    let done = begins_of ranges (take i all) in
    let key = begin_at ranges d.index in
    let next = next_keys done key keys begins more were.count counted in
    let kept = kept_next done key keys next.0 were.kept (up_to_next ranges all i no_headed below sorted) next.1 in (
      next.0,
      subst (λ hs. AreNumberedSoFar ranges hs next.0 more (set runs d.index (more - 1, more)))
          (sym (take_more all i no_headed below))
          (numbered_next ranges (take i all) d keys next.0 begins more runs were kept next.2 within),
    )

-- the runs of the ranges that aren't listed stay
pub others_more : (all : List HeadedIndex) (i : ℕ) (runs now : List (ℕ × ℕ)) (run : ℕ × ℕ) → i < length all
    → OthersStay (take i all) runs now
    → OthersStay (take (i + 1) all) runs (set now (get_or all i no_headed).index run)
others_more all i runs now run below stay =
    let d = get_or all i no_headed in
    subst (λ hs. OthersStay hs runs (set now d.index run)) (sym (take_more all i no_headed below)) (λ index none.
    let not : ¬ Contains (indices_of (take i all) ++ d.index ∷ []) index =
    subst (λ is. ¬ Contains is index) (map_push (λ (h : HeadedIndex). h.index) (take i all) d) none in
    let other : index ≡ d.index → ⊥ =
    λ e. not (subst (Contains (indices_of (take i all) ++ d.index ∷ [])) (sym e)
    (Contains-push (indices_of (take i all)) d.index)) in
    get_or-set_other now d.index index run (0, 0) other
    ∙ stay index (λ has. not (Contains-append_left (indices_of (take i all)) (d.index ∷ []) index has)))
