-- The indices of the ranges that aren't empty.
use Rattle.std.proofs.Common.{◌≡◌, ℕ, zero, suc, ◌+◌, ◌<◌, ◌≤◌, Bool, true, false, cond, List, [], ◌∷◌, ◌++◌, length, get_or, drop, filter, refl, ap, subst, ◌∙◌, inl, inr, arith, append_assoc, add-one}
use Rattle.std.specs.Prelude.{All, Contains, Some, slice_get}
use Rattle.std.specs.List.Sorted.{IsPermutation}
use Rattle.std.proofs.Math.Seq.{drop-cons}
use Rattle.std.proofs.lemmas.List.{length-map}
use Rattle.std.proofs.lemmas.List.Elements.{All-contains, Contains-append_cases, Contains-append_left, Contains-append_right, Contains-get_or, Contains-push, Contains-push_cases}
use Rattle.std.proofs.lemmas.List.Sorted.{All-permutation, length_permutation}
use Rattle.std.proofs.lemmas.Option.{slice_get_within, get_or_from_slice_get}
use Rattle.keys.specs.Range.{IsEmpty, is_filled}
use Rattle.keys.specs.declared.range.Range.{Range}
use Rattle.keys.specs.declared.gap_runs.begin_sort.HeadedIndex.{HeadedIndex}
use Rattle.keys.specs.GapRuns.{filled_from}
use Rattle.keys.specs.Sorting.{indices_of}
use Rattle.keys.specs.Numbering.{IsFilledAt}
use Rattle.keys.proofs.callers.KeyOrder.{not_before_itself}
use Rattle.keys.proofs.callers.Meeting.{before_unless_empty}
use Rattle.keys.proofs.Values.{contains_value}

none_contained : (i : ℕ) → Contains [] i → ⊥
none_contained i has = let lt : has.0 < 0 = has.1 in omega arith

-- a range that isn't empty has its index there
pub filled_has : (first : ℕ) (ranges : List Range) (k : ℕ) (range : Range) → slice_get ranges k ≡ Some range
    → is_filled range ≡ true → Contains (filled_from first ranges) (first + k)
filled_has first [] k range at filled = cc
filled_has first (r ∷ ranges) zero range at filled =
    let same : range ≡ r = cc in
    let here : is_filled r ≡ true = subst (λ (x : Range). is_filled x ≡ true) same filled in
    let none : first ≡ first + 0 = omega arith in
    rw here (subst (Contains (first ∷ filled_from (first + 1) ranges)) none
    (Contains-append_left (first ∷ []) (filled_from (first + 1) ranges) first (Contains-push [] first)))
filled_has first (r ∷ ranges) (suc k) range at filled =
    let rest = filled_from (first + 1) ranges in
    let next : first + 1 + k ≡ first + suc k = omega arith in
    let later : Contains rest (first + suc k) =
    subst (Contains rest) next (filled_has (first + 1) ranges k range at filled) in
    elim (is_filled r) as (λ b. Contains (cond b (first ∷ rest) rest) (first + suc k)) [
      | true ↦ Contains-append_right (first ∷ []) rest (first + suc k) later
      | false ↦ later
    ]

-- it is the index of a range that isn't empty, counted from the first one
abbrev IsFilledFrom : ℕ → List Range → ℕ → Type 0
IsFilledFrom first ranges index = (k : ℕ) × (index ≡ first + k) × IsFilledAt ranges k

filled_later : (first : ℕ) (r : Range) (ranges : List Range) (index : ℕ) → IsFilledFrom (first + 1) ranges index
    → IsFilledFrom first (r ∷ ranges) index
filled_later first r ranges index (k, is, filled) = (suc k, omega (arith, is), filled)

filled_from_has : (first : ℕ) (ranges : List Range) (index : ℕ) → Contains (filled_from first ranges) index
    → IsFilledFrom first ranges index
filled_from_has first [] index has = absurd (none_contained index has)
filled_from_has first (r ∷ ranges) index has =
    let rest = filled_from (first + 1) ranges in
    elim (is_filled r) as (λ b. is_filled r ≡ b → Contains (cond b (first ∷ rest) rest) index
    → IsFilledFrom first (r ∷ ranges) index) [
      | true ↦ λ filled there. elim (Contains-append_cases (first ∷ []) rest index there) [
        | inl one ↦ elim (Contains-push_cases [] first index one) [
          | inl none ↦ absurd (none_contained index none)
          | inr same ↦ (0, omega (arith, same), (r, refl, filled))
        ]
        | inr later ↦ filled_later first r ranges index (filled_from_has (first + 1) ranges index later)
      ]
      | false ↦ λ empty there. filled_later first r ranges index (filled_from_has (first + 1) ranges index there)
    ] refl has

pub filled_at : (ranges : List Range) (index : ℕ) → Contains (filled_from 0 ranges) index → IsFilledAt ranges index
filled_at ranges index has =
    let found = filled_from_has 0 ranges index has in
    let same : found.0 ≡ index = omega (arith, found.1) in
    subst (IsFilledAt ranges) same found.2

pub filled_in : (ranges : List Range) (index : ℕ) → IsFilledAt ranges index → Contains (filled_from 0 ranges) index
filled_in ranges index (range, at, filled) =
    let none : 0 + index ≡ index = omega arith in
    subst (Contains (filled_from 0 ranges)) none (filled_has 0 ranges index range at filled)

-- there are no more of them than ranges
pub filled_few : (first : ℕ) (ranges : List Range) → length (filled_from first ranges) ≤ length ranges
filled_few first [] = omega arith
filled_few first (r ∷ ranges) =
    let rest = filled_few (first + 1) ranges in
    elim (is_filled r) as (λ b. length (cond b (first ∷ filled_from (first + 1) ranges) (filled_from (first + 1) ranges))
    ≤ length (r ∷ ranges)) [ true ↦ omega arith | false ↦ omega arith ]

pub sorted_few : (ranges : List Range) (headed : List HeadedIndex)
    → IsPermutation (filled_from 0 ranges) (indices_of headed) → length headed ≤ length ranges
sorted_few ranges headed moved =
    omega (
      arith,
      filled_few 0 ranges,
      length_permutation (filled_from 0 ranges) (indices_of headed) moved,
      length-map {B = ℕ} headed (λ h. h.index),
    )

-- the ranges listed aren't empty
pub sorted_filled : (ranges : List Range) (headed : List HeadedIndex)
    → IsPermutation (filled_from 0 ranges) (indices_of headed) → All (IsFilledAt ranges) (indices_of headed)
sorted_filled ranges headed moved =
    All-permutation (IsFilledAt ranges) (filled_from 0 ranges) (indices_of headed) moved
    (λ k d lt. filled_at ranges (get_or (filled_from 0 ranges) k d) (Contains-get_or (filled_from 0 ranges) k d lt))

-- their indices are below the number of the ranges
pub sorted_within : (ranges : List Range) (headed : List HeadedIndex) (n : ℕ) → n ≡ length ranges
    → IsPermutation (filled_from 0 ranges) (indices_of headed) → All (λ h. h.index < n) headed
sorted_within ranges headed n is moved = λ k d lt.
    let h = get_or headed k d in
    let filled = All-contains (IsFilledAt ranges) (indices_of headed) h.index (sorted_filled ranges headed moved)
    (contains_value (λ (x : HeadedIndex). x.index) headed h (Contains-get_or headed k d lt)) in
    let below = slice_get_within ranges h.index filled.0 filled.1 in
    omega (arith, below, is)

-- the range at the index is the first of those that are left
left_at : (ranges : List Range) (i : ℕ) (r : Range) → slice_get ranges i ≡ Some r
    → drop i ranges ≡ r ∷ drop (i + 1) ranges
left_at ranges i r at =
    let lt = slice_get_within ranges i r at in
    rw (add-one i)
    (drop-cons ranges i r lt ∙ ap (λ y. y ∷ drop (suc i) ranges) (get_or_from_slice_get ranges i r r at))

-- a range that isn't empty is listed, and one that is isn't
pub filled_listed : (ranges : List Range) (i : ℕ) (r : Range) (done entire : List ℕ) → slice_get ranges i ≡ Some r
    → is_filled r ≡ true → done ++ filled_from i (drop i ranges) ≡ entire
    → (done ++ i ∷ []) ++ filled_from (i + 1) (drop (i + 1) ranges) ≡ entire
filled_listed ranges i r done entire at filled was =
    let left : done ++ filled_from i (r ∷ drop (i + 1) ranges) ≡ entire =
    subst (λ rs. done ++ filled_from i rs ≡ entire) (left_at ranges i r at) was in
    append_assoc done (i ∷ []) (filled_from (i + 1) (drop (i + 1) ranges)) ∙ (rw filled at left)

pub empty_left_out : (ranges : List Range) (i : ℕ) (r : Range) (done entire : List ℕ) → slice_get ranges i ≡ Some r
    → is_filled r ≡ false → done ++ filled_from i (drop i ranges) ≡ entire
    → done ++ filled_from (i + 1) (drop (i + 1) ranges) ≡ entire
empty_left_out ranges i r done entire at empty was =
    let left : done ++ filled_from i (r ∷ drop (i + 1) ranges) ≡ entire =
    subst (λ rs. done ++ filled_from i rs ≡ entire) (left_at ranges i r at) was in
    rw empty at left

-- of those that are chosen, one that isn't empty is listed if it is chosen
pub chosen_listed : (p : ℕ → Bool) (ranges : List Range) (i : ℕ) (r : Range) (done entire : List ℕ)
    → slice_get ranges i ≡ Some r → is_filled r ≡ true → p i ≡ true
    → done ++ filter p (filled_from i (drop i ranges)) ≡ entire
    → (done ++ i ∷ []) ++ filter p (filled_from (i + 1) (drop (i + 1) ranges)) ≡ entire
chosen_listed p ranges i r done entire at filled chosen was =
    let left : done ++ filter p (filled_from i (r ∷ drop (i + 1) ranges)) ≡ entire =
    subst (λ rs. done ++ filter p (filled_from i rs) ≡ entire) (left_at ranges i r at) was in
    append_assoc done (i ∷ []) (filter p (filled_from (i + 1) (drop (i + 1) ranges))) ∙ (rw (filled, chosen) at left)

pub unchosen_left_out : (p : ℕ → Bool) (ranges : List Range) (i : ℕ) (r : Range) (done entire : List ℕ)
    → slice_get ranges i ≡ Some r → is_filled r ≡ true → p i ≡ false
    → done ++ filter p (filled_from i (drop i ranges)) ≡ entire
    → done ++ filter p (filled_from (i + 1) (drop (i + 1) ranges)) ≡ entire
unchosen_left_out p ranges i r done entire at filled unchosen was =
    let left : done ++ filter p (filled_from i (r ∷ drop (i + 1) ranges)) ≡ entire =
    subst (λ rs. done ++ filter p (filled_from i rs) ≡ entire) (left_at ranges i r at) was in
    rw (filled, unchosen) at left

-- what a test for emptiness shows
pub filled_unless : (r : Range) → (IsEmpty r → ⊥) → is_filled r ≡ true
filled_unless r says = before_unless_empty r says

pub empty_if : (r : Range) → IsEmpty r → is_filled r ≡ false
empty_if r e = rw e (not_before_itself r.end)
