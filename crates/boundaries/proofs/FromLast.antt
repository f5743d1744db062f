-- The items before a bound, of those before another bound the last alone, in parts.
use Rattle.std.proofs.Common.{◌≡◌, ℕ, ◌+◌, ◌-◌, ◌≤◌, ◌⊎◌, Bool, true, false, not, ◌&&◌, List, [], ◌∷◌, ◌++◌, length, get_or, drop, filter, All, refl, sym, ◌∙◌, ap, inl, inr, arith, append-nil, append_assoc, length-append, slice_range}
use Rattle.std.proofs.Math.Seq.{drop-append-add}
use Rattle.std.proofs.lemmas.Bool.{cases_Bool}
use Rattle.std.proofs.lemmas.List.{drop-append-le, drop-take, take_at}
use Rattle.std.proofs.lemmas.List.Elements.{All-cons, All-head, All-tail, filter-append}
use Rattle.boundaries.proofs.Words.{IsPartitioned}
use Rattle.boundaries.proofs.callers.Partitions.{Falls, Falls-below_from, none_pass, none_fail, All-front, All-back}

-- the last of those that pass, alone
abbrev last_passing : {X : Type 0} → (X → Bool) → List X → List X
last_passing p xs = drop (length (filter p xs) - 1) (filter p xs)

-- those that don't pass the first test and pass the second one
abbrev span : {X : Type 0} → (X → Bool) → (X → Bool) → List X → List X
span p q xs = filter (λ x. not (p x) && q x) xs

-- those that pass the second test, of those that pass the first one the last alone
abbrev pub from_last_of : {X : Type 0} → (X → Bool) → (X → Bool) → List X → List X
from_last_of p q xs = drop (length (filter p xs) - 1) (filter q xs)

module _ {X : Type 0} (p q : X → Bool) where
  -- Where none passes the first test, those that pass the second one are those between.
  span_from_begin : (xs : List X) → All (λ x. p x ≡ false) xs → filter q xs ≡ span p q xs
  span_from_begin [] a = refl
  span_from_begin (x ∷ xs) a =
      rw (All-head (λ y. p y ≡ false) x xs a, span_from_begin xs (All-tail (λ y. p y ≡ false) x xs a)) refl

  -- from the last one before the first bound to the second bound, where both lie so far on
  pub from_last_range : (xs : List X) (i j : ℕ) → IsPartitioned q xs → i ≤ j → i ≡ length (filter p xs) - 1
      → j ≡ length (filter q xs) → from_last_of p q xs ≡ slice_range xs i j
  from_last_range xs i j d le m n =
      let up : i + (j - i) ≡ j = omega arith in
      cc (take_at (filter q xs) (filter (λ x. not (q x)) xs) j (sym n), drop-take i (j - i) xs)

  module _ (n : (x : X) → p x ≡ true → q x ≡ true) where
    -- Those that pass the second test are those that pass the first one, and then those between the two bounds.
    passing_falls : (xs : List X) → Falls p xs → filter q xs ≡ filter p xs ++ span p q xs
    passing_falls [] f = refl
    passing_falls (x ∷ xs) (inl h) = rw (h.0, n x h.0) (ap (λ ys. x ∷ ys) (passing_falls xs h.1))
    passing_falls (x ∷ xs) (inr h) =
        let a = All-cons (λ y. p y ≡ false) x xs h.0 h.1 in
        span_from_begin (x ∷ xs) a ∙ sym (ap (λ ys. ys ++ span p q (x ∷ xs)) (none_pass p (x ∷ xs) a).0)

    -- from the last that the first test accepts on, that one and then those between the two bounds
    pub last_and_between : (xs : List X) → IsPartitioned p xs → from_last_of p q xs ≡ last_passing p xs ++ span p q xs
    last_and_between xs c =
        ap (drop (length (filter p xs) - 1)) (passing_falls xs (Falls-below_from p xs c))
        ∙ drop-append-le (length (filter p xs) - 1) (filter p xs) (span p q xs) (omega arith)

    pub fewer_before : (xs : List X) → length (filter p xs) ≤ length (filter q xs)
    fewer_before [] = omega arith
    fewer_before (x ∷ xs) = grind (arith, fewer_before xs, n x, cases_Bool (p x), cases_Bool (q x))

    -- Where none is below the second bound, none passes the first.
    pub none_of_fewer : (xs : List X) → All (λ x. q x ≡ false) xs → All (λ x. p x ≡ false) xs
    none_of_fewer xs a i d inside = grind (arith, cases_Bool (p (get_or xs i d)), n (get_or xs i d), a i d inside)

    -- Those behind a part count as far as the second bound, where none of them is below the first one.
    from_last_append : (xs ys : List X) → All (λ x. p x ≡ false) ys
        → from_last_of p q (xs ++ ys) ≡ from_last_of p q xs ++ filter q ys
    from_last_append xs ys fail =
        let within : length (filter p xs) - 1 ≤ length (filter q xs) = omega (arith, fewer_before xs) in
        rw (filter-append p xs ys, (none_pass p ys fail).0, append-nil (filter p xs), filter-append q xs ys)
        (drop-append-le (length (filter p xs) - 1) (filter q xs) (filter q ys) within)

    -- Those before a part don't count, where one of the part is below the first bound.
    from_last_after : (xs ys : List X) → All (λ x. p x ≡ true) xs → (xs ≡ []) ⊎ (1 ≤ length (filter p ys))
        → from_last_of p q (xs ++ ys) ≡ from_last_of p q ys
    from_last_after xs ys before (inl none) = rw none refl
    from_last_after xs ys before (inr some) =
        let count : length (xs ++ filter p ys) - 1 ≡ length xs + (length (filter p ys) - 1) =
        omega (arith, some, length-append xs (filter p ys)) in
        let sooner = (none_fail q xs (λ i d inside. n _ (before i d inside))).0 in
        rw (filter-append p xs ys, (none_fail p xs before).0, filter-append q xs ys, sooner, count)
        (drop-append-add xs (filter q ys) (length (filter p ys) - 1))

    -- from a part on, where the first bound lies in it
    pub from_last_on : (a c b : List X) → All (λ x. p x ≡ true) a → (a ≡ []) ⊎ (1 ≤ length (filter p c))
        → All (λ x. p x ≡ false) b → from_last_of p q (a ++ (c ++ b)) ≡ from_last_of p q c ++ filter q b
    from_last_on a c b before some later =
        rw (← append_assoc a c b, from_last_append (a ++ c) b later, from_last_after a c before some) refl

    -- of a part alone, where both bounds lie in it
    pub from_last_part : (a c b : List X) → All (λ x. p x ≡ true) a → (a ≡ []) ⊎ (1 ≤ length (filter p c))
        → All (λ x. q x ≡ false) b → from_last_of p q (a ++ (c ++ b)) ≡ from_last_of p q c
    from_last_part a c b before some following =
        from_last_on a c b before some (none_of_fewer b following)
        ∙ ap (λ ys. from_last_of p q c ++ ys) (none_pass q b following).0 ∙ append-nil (from_last_of p q c)

    -- of two parts and those between, where the first bound lies in the one and the second bound in the other
    pub from_last_parts : (a l m r b : List X) → All (λ x. p x ≡ true) a → (a ≡ []) ⊎ (1 ≤ length (filter p l))
        → All (λ x. p x ≡ false) (m ++ (r ++ b)) → All (λ x. q x ≡ true) (l ++ m) → All (λ x. q x ≡ false) b
        → from_last_of p q (a ++ (l ++ (m ++ (r ++ b)))) ≡ from_last_of p (λ x. true) l ++ (m ++ filter q r)
    from_last_parts a l m r b before some later sooner following =
        let left = (none_fail q l (All-front (λ x. q x ≡ true) l m sooner)).0
        ∙ sym (none_fail (λ (x : X). true) l (λ i d inside. refl)).0 in
        let middle = (none_fail q m (All-back (λ x. q x ≡ true) l m sooner)).0 in
        let rest : filter q (m ++ (r ++ b)) ≡ m ++ filter q r =
        simp (filter-append, middle, (none_pass q b following).0, append-nil) in
        from_last_on a l (m ++ (r ++ b)) before some later ∙ rw (left, rest) refl
