-- What is chosen of a list, put down without a branch.
use Rattle.std.proofs.Common.{◌≡◌, ℕ, ◌+◌, ◌<◌, Bool, true, false, cond, List, length, get_or, set, drop, take, refl, sym, ap, subst, ◌∙◌, arith, get_or-drop, length-set}
use Rattle.std.specs.Prelude.{All}
use Rattle.std.proofs.lemmas.List.{take-set, drop-set-lt}
use Rattle.std.proofs.lemmas.List.Filters.{FiltersInPlace, FiltersInPlace-more_no, FiltersInPlace-more_set}

-- what is put down and isn't chosen is written over later
put_down : {X : Type 0} (p : X → Bool) (xs ys : List X) (k i : ℕ) (x : X) → FiltersInPlace p xs ys k i → k < i
    → FiltersInPlace p xs (set ys k x) k i
put_down p xs ys k i x was before = record {
  front = take-set ys k x ∙ was.front;
  rest = drop-set-lt i ys k x before ∙ was.rest;
  behind = was.behind;
  within = was.within;
  long = length-set ys k x ∙ was.long;
}

-- one more is put down, and counted if it is chosen
pub chosen_more : {X : Type 0} (p : X → Bool) (xs ys : List X) (k i more : ℕ) (x : X) → FiltersInPlace p xs ys k i
    → i < length ys → x ≡ get_or ys i x → more ≡ cond (p x) 1 0 → FiltersInPlace p xs (set ys k x) (k + more) (i + 1)
chosen_more p xs ys k i more x was within is counted = elim (p x) as (λ b. p x ≡ b → more ≡ cond b 1 0
    → FiltersInPlace p xs (set ys k x) (k + more) (i + 1)) [
      | true ↦ λ e one. rw one (FiltersInPlace-more_set was within e is)
      | false ↦ λ e none.
          let next = put_down p xs ys k (i + 1) x (FiltersInPlace-more_no was within e is) (omega (arith, was.behind)) in
          let same : k ≡ k + more = omega (arith, none) in
          subst (λ n. FiltersInPlace p xs (set ys k x) n (i + 1)) same next
    ] refl counted

-- what is read is from the list as it was
pub read_before : {X : Type 0} (P : X → Type 0) (p : X → Bool) (xs ys : List X) (k i : ℕ) (x : X) → FiltersInPlace p xs ys k i
    → i < length ys → All P xs → x ≡ get_or ys i x → P x
read_before P p xs ys k i x was within all is =
    let none : i + 0 ≡ i = omega arith in
    let at : get_or ys i x ≡ get_or xs i x =
    ap (λ n. get_or ys n x) (sym none) ∙ (sym (get_or-drop i ys 0 x)
    ∙ (ap (λ l. get_or l 0 x) was.rest ∙ (get_or-drop i xs 0 x ∙ ap (λ n. get_or xs n x) none))) in
    subst P (sym (is ∙ at)) (all i x (omega (arith, within, was.long)))
