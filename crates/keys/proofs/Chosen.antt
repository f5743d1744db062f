-- The indices of the ranges that are chosen, in the order of all.
use Rattle.std.proofs.Common.{◌≡◌, ℕ, zero, suc, ◌<◌, Bool, true, false, cond, List, [], ◌∷◌, length, get_or, set, swap, filter, refl, ap, subst, arith}
use Rattle.std.specs.Prelude.{All}
use Rattle.std.specs.List.Sorted.{IsPermutation}
use Rattle.std.proofs.lemmas.List.Elements.{All-filter, Contains-get_or}
use Rattle.std.proofs.lemmas.List.Kept.{AllPairs-filter}
use Rattle.std.proofs.lemmas.List.Sorted.{All-permutation, IsPermutation-append_comm, IsPermutation-append_left, IsPermutation-cons, IsPermutation-keeps, IsPermutation-refl, IsPermutation-trans}
use Rattle.std.proofs.lemmas.Option.{slice_get_within}
use Rattle.keys.specs.GapRuns.{filled_from, AreChosenInOrder, AreInOrder, BeginsFirst}
use Rattle.keys.specs.Numbering.{IsFilledAt}
use Rattle.keys.specs.Singles.{HaveInOrder}
use Rattle.keys.specs.declared.range.Range.{Range}
use Rattle.keys.proofs.Filled.{filled_at}
use Rattle.keys.proofs.Kept.{not_true}

module _ {X : Type 0} (p : X → Bool) where
  -- what is chosen of the one list is chosen of the other, in another order
  abbrev AreMoved : List X → List X → Type 0
  AreMoved xs ys = IsPermutation (filter p xs) (filter p ys)

  one_more : (x : X) (xs ys : List X) → AreMoved xs ys → AreMoved (x ∷ xs) (x ∷ ys)
  one_more x xs ys moved =
      elim (p x) as (λ b. IsPermutation (cond b (x ∷ filter p xs) (filter p xs)) (cond b (x ∷ filter p ys) (filter p ys))) [
        | true ↦ IsPermutation-cons x (filter p xs) (filter p ys) moved
        | false ↦ moved
      ]

  turned : (x y : X) (xs : List X) → AreMoved (x ∷ y ∷ xs) (y ∷ x ∷ xs)
  turned x y xs =
      let rest = filter p xs in
      elim (p x) as (λ b. IsPermutation (cond b (x ∷ filter p (y ∷ xs)) (filter p (y ∷ xs)))
      (cond (p y) (y ∷ cond b (x ∷ rest) rest) (cond b (x ∷ rest) rest))) [
        | true ↦ elim (p y) as (λ b. IsPermutation (x ∷ cond b (y ∷ rest) rest) (cond b (y ∷ x ∷ rest) (x ∷ rest))) [
          | true ↦ IsPermutation-append_left rest (x ∷ y ∷ []) (y ∷ x ∷ []) (IsPermutation-append_comm (x ∷ []) (y ∷ []))
          | false ↦ IsPermutation-refl (x ∷ rest)
        ]
        | false ↦ IsPermutation-refl (filter p (y ∷ xs))
      ]

  chain : (xs ys zs : List X) → AreMoved xs ys → AreMoved ys zs → AreMoved xs zs
  chain xs ys zs = IsPermutation-trans (filter p xs) (filter p ys) (filter p zs)

  to_head : (xs : List X) (j : ℕ) (x d : X) → j < length xs → AreMoved (x ∷ xs) (get_or xs j d ∷ set xs j x)
  to_head [] j x d within = absurd (omega (arith, within))
  to_head (y ∷ xs) zero x d within = turned x y xs
  to_head (y ∷ xs) (suc j) x d within =
      let found = get_or xs j d in
      chain (x ∷ y ∷ xs) (y ∷ x ∷ xs) (found ∷ y ∷ set xs j x) (turned x y xs)
      (chain (y ∷ x ∷ xs) (y ∷ found ∷ set xs j x) (found ∷ y ∷ set xs j x)
      (one_more y (x ∷ xs) (found ∷ set xs j x) (to_head xs j x d (omega (arith, within)))) (turned y found (set xs j x)))

  exchanged : (xs : List X) (i j : ℕ) (d : X) → i < length xs → j < length xs
      → AreMoved xs (set (set xs i (get_or xs j d)) j (get_or xs i d))
  exchanged [] i j d first second = absurd (omega (arith, first))
  exchanged (x ∷ xs) zero zero d first second = IsPermutation-refl (filter p (x ∷ xs))
  exchanged (x ∷ xs) zero (suc j) d first second = to_head xs j x d (omega (arith, second))
  exchanged (x ∷ xs) (suc i) zero d first second = to_head xs i x d (omega (arith, first))
  exchanged (x ∷ xs) (suc i) (suc j) d first second =
      one_more x xs (set (set xs i (get_or xs j d)) j (get_or xs i d))
      (exchanged xs i j d (omega (arith, first)) (omega (arith, second)))

  swapped : (xs : List X) (i j : ℕ) → i < length xs → j < length xs → AreMoved xs (swap xs i j)
  swapped [] i j first second = IsPermutation-refl (filter p [])
  swapped (x ∷ xs) i j first second = exchanged (x ∷ xs) i j x first second

  moved_chosen : (xs ys : List X) → IsPermutation xs ys → AreMoved xs ys
  moved_chosen xs =
      IsPermutation-keeps xs (AreMoved xs) (IsPermutation-refl (filter p xs))
      (λ ys i j first second was. chain xs ys (swap ys i j) was (swapped ys i j first second))

-- those chosen from an order of all are in order too
pub chosen_in_order : (chosen : ℕ → Bool) (ranges : List Range) (order : List ℕ) → AreInOrder ranges order
    → AreChosenInOrder chosen ranges (filter chosen order)
chosen_in_order chosen ranges order all = record {
  in_order = AllPairs-filter (BeginsFirst ranges) chosen order all.in_order;
  all = moved_chosen chosen (filled_from 0 ranges) order all.all;
}

all_filled : (ranges : List Range) → All (IsFilledAt ranges) (filled_from 0 ranges)
all_filled ranges = λ k d within.
    filled_at ranges (get_or (filled_from 0 ranges) k d) (Contains-get_or (filled_from 0 ranges) k d within)

-- each index listed is that of a range that isn't empty
pub chosen_filled : (chosen : ℕ → Bool) (ranges : List Range) (order : List ℕ) → AreChosenInOrder chosen ranges order
    → All (IsFilledAt ranges) order
chosen_filled chosen ranges order are =
    All-permutation (IsFilledAt ranges) (filter chosen (filled_from 0 ranges)) order are.all
    (All-filter chosen (IsFilledAt ranges) (filled_from 0 ranges) (all_filled ranges))

-- and so it is within
pub order_within : (ranges : List Range) (order : List ℕ) → AreInOrder ranges order
    → All (λ index. index < length ranges) order
order_within ranges order are = λ k d within.
    let filled = All-permutation (IsFilledAt ranges) (filled_from 0 ranges) order are.all (all_filled ranges) k d within in
    slice_get_within ranges (get_or order k d) filled.0 filled.1

-- what is chosen of those that are listed, if all that are chosen are
filter_within : {X : Type 0} (p q : X → Bool) → ((x : X) → p x ≡ true → q x ≡ true) → (xs : List X)
    → filter p (filter q xs) ≡ filter p xs
filter_within p q all [] = refl
filter_within p q all (x ∷ xs) =
    let rest = filter_within p q all xs in
    elim (q x) as (λ b. q x ≡ b → filter p (cond b (x ∷ filter q xs) (filter q xs)) ≡ cond (p x) (x ∷ filter p xs) (filter p xs)) [
      | true ↦ λ _. ap (λ ys. cond (p x) (x ∷ ys) ys) rest
      | false ↦ λ left_out. elim (p x) as (λ b. p x ≡ b → filter p (filter q xs) ≡ cond b (x ∷ filter p xs) (filter p xs)) [
        | true ↦ λ passes. absurd (not_true (q x) left_out (all x passes))
        | false ↦ λ _. rest
      ] refl
    ] refl

pub chosen_among : (chosen : ℕ → Bool) (ranges : List Range) (order : List ℕ) → HaveInOrder chosen ranges order
    → AreChosenInOrder chosen ranges (filter chosen order)
chosen_among chosen ranges order have = record {
  in_order = AllPairs-filter (BeginsFirst ranges) chosen order have.in_order.in_order;
  all = subst (λ xs. IsPermutation xs (filter chosen order))
      (filter_within chosen have.listed have.all (filled_from 0 ranges))
      (moved_chosen chosen (filter have.listed (filled_from 0 ranges)) order have.in_order.all);
}

-- an index that is listed is within
pub among_within : (chosen : ℕ → Bool) (ranges : List Range) (order : List ℕ) → HaveInOrder chosen ranges order
    → All (λ index. index < length ranges) order
among_within chosen ranges order have = λ k d within.
    let filled = chosen_filled have.listed ranges order have.in_order k d within in
    slice_get_within ranges (get_or order k d) filled.0 filled.1

-- the order of all has the chosen ones too
filter_all : {X : Type 0} (xs : List X) → filter (λ (x : X). true) xs ≡ xs
filter_all [] = refl
filter_all (x ∷ xs) = ap (λ ys. x ∷ ys) (filter_all xs)

pub among_all : (chosen : ℕ → Bool) (ranges : List Range) (order : List ℕ) → AreInOrder ranges order
    → HaveInOrder chosen ranges order
among_all chosen ranges order all = record {
  listed = λ index. true;
  in_order = subst (AreChosenInOrder (λ index. true) ranges) (filter_all order)
      (chosen_in_order (λ index. true) ranges order all);
  all = λ index _. refl;
}
