-- Lemmas for callers: lists in which those below the bound come first.
use Rattle.std.proofs.Common.{◌≡◌, ℕ, zero, suc, ◌+◌, ◌<◌, ◌≤◌, ◌⊎◌, Bool, true, false, not, List, [], ◌∷◌, ◌++◌, length, get_or, take, drop, filter, All, refl, ap, subst, ◌∙◌, inl, inr, arith, drop_at, flat_map}
use Rattle.std.specs.List.Sorted.{IsPartitionedBy, IsPartitionPoint}
use Rattle.std.proofs.lemmas.Bool.{cases_Bool}
use Rattle.std.proofs.lemmas.List.{append-nil, get_or-drop, get_or-take, get_or_append_left, length-append, length-drop, length-take, take-append-drop}
use Rattle.std.proofs.lemmas.List.Filters.{length-filter_both}
use Rattle.std.proofs.lemmas.List.Elements.{All-nil, All-cons, All-head, All-tail, All-weaker, filter-append, filter_passes, All-append}
use Rattle.boundaries.specs.Path.{IsPartitioned}

pub not_both : (a : Bool) → a ≡ true → a ≡ false → ⊥
not_both a t f = cc

pub not_true : (a : Bool) → not a ≡ true → a ≡ false
not_true true h = cc
not_true false h = refl

pub All-front : {X : Type 0} (P : X → Type 0) (xs ys : List X) → All P (xs ++ ys) → All P xs
All-front P xs ys a = λ k d within. subst P (get_or_append_left xs ys d k within) (a k d (omega (arith, length-append xs ys)))

pub All-back : {X : Type 0} (P : X → Type 0) (xs ys : List X) → All P (xs ++ ys) → All P ys
All-back P [] ys a = a
All-back P (x ∷ xs) ys a = All-back P xs ys (All-tail P x (xs ++ ys) a)

-- what holds of all that is computed of each element
pub All-joined : {X Y : Type 0} (P : Y → Type 0) (f : X → List Y) (xs : List X) → All (λ x. All P (f x)) xs → All P (flat_map f xs)
All-joined P f [] a = All-nil P
All-joined {X} P f (x ∷ xs) a =
    let Q : X → Type 0 = λ x. All P (f x) in
    All-append P (f x) (flat_map f xs) (All-head Q x xs a) (All-joined P f xs (All-tail Q x xs a))

pub All-apart : {X Y : Type 0} (P : Y → Type 0) (f : X → List Y) (xs : List X) → All P (flat_map f xs) → All (λ x. All P (f x)) xs
All-apart P f [] a = All-nil (λ x. All P (f x))
All-apart P f (x ∷ xs) a =
    All-cons (λ x. All P (f x)) x xs (All-front P (f x) (flat_map f xs) a) (All-apart P f xs (All-back P (f x) (flat_map f xs) a))

-- a bound by recursion: behind one that fails all fail
abbrev pub Falls : {X : Type 0} → (X → Bool) → List X → Type 0
Falls p [] = Unit {0}
Falls p (x ∷ xs) = ((p x ≡ true) × Falls p xs) ⊎ ((p x ≡ false) × All (λ y. p y ≡ false) xs)

module _ {X : Type 0} (p : X → Bool) where
  pub none_pass : (xs : List X) → All (λ x. p x ≡ false) xs
      → (filter p xs ≡ []) × (filter (λ x. not (p x)) xs ≡ xs)
  none_pass [] a = (refl, refl)
  none_pass (x ∷ xs) a =
      let f = All-head (λ y. p y ≡ false) x xs a in
      let i = none_pass xs (All-tail (λ y. p y ≡ false) x xs a) in
      (rw f i.0, rw f (ap (λ ys. x ∷ ys) i.1))

  pub none_passed : (xs : List X) → filter p xs ≡ [] → All (λ x. p x ≡ false) xs
  none_passed [] e = All-nil (λ x. p x ≡ false)
  none_passed (x ∷ xs) e =
      elim (cases_Bool (p x)) [
        | inl t ↦ let k : x ∷ filter p xs ≡ [] = rw t at e in absurd (cc)
        | inr f ↦ All-cons (λ y. p y ≡ false) x xs f (none_passed xs (rw f at e))
      ]

  pub none_fail : (xs : List X) → All (λ x. p x ≡ true) xs
      → (filter p xs ≡ xs) × (filter (λ x. not (p x)) xs ≡ [])
  none_fail [] a = (refl, refl)
  none_fail (x ∷ xs) a =
      let t = All-head (λ y. p y ≡ true) x xs a in
      let i = none_fail xs (All-tail (λ y. p y ≡ true) x xs a) in
      (rw t (ap (λ ys. x ∷ ys) i.0), rw t i.1)

  pub failed : (xs : List X) → All (λ x. p x ≡ false) (filter (λ x. not (p x)) xs)
  failed xs = All-weaker (λ x. not (p x) ≡ true) (λ x. p x ≡ false) (λ x. not_true (p x)) _ (filter_passes (λ x. not (p x)) xs)

  -- what stands behind a bound
  pub after_partitioned : (xs : List X) → IsPartitioned p xs → All (λ x. p x ≡ false) (drop (length (filter p xs)) xs)
  after_partitioned xs c =
      rw (ap (drop (length (filter p xs))) c ∙ drop_at (filter p xs) (filter (λ x. not (p x)) xs) _ refl) (failed xs)

  all_after : (x : X) (xs ys zs : List X) → p x ≡ false → All (λ y. p y ≡ true) ys
      → All (λ y. p y ≡ false) zs → x ∷ xs ≡ ys ++ x ∷ zs → All (λ y. p y ≡ false) xs
  all_after x xs [] zs f a b e = let k : zs ≡ xs = cc in subst (All (λ y. p y ≡ false)) k b
  all_after x xs (y ∷ ys) zs f a b e =
      let k : y ≡ x = cc in absurd (not_both (p x) (rw (← k) (All-head (λ z. p z ≡ true) y ys a)) f)

  pub Falls-below_from : (xs : List X) → IsPartitioned p xs → Falls p xs
  Falls-below_from [] e = tt
  Falls-below_from (x ∷ xs) e =
      elim (cases_Bool (p x)) [
        | inl t ↦ let k = rw t at e in inl (t, Falls-below_from xs (cc))
        | inr f ↦ inr (f, all_after x xs (filter p xs) (filter (λ y. not (p y)) xs) f (filter_passes p xs) (failed xs) (rw f at e))
      ]

  pub IsPartitioned-from_falls : (xs : List X) → Falls p xs → IsPartitioned p xs
  IsPartitioned-from_falls [] f = refl
  IsPartitioned-from_falls (x ∷ xs) (inl h) = rw h.0 (ap (λ ys. x ∷ ys) (IsPartitioned-from_falls xs h.1))
  IsPartitioned-from_falls (x ∷ xs) (inr h) = let n = none_pass xs h.1 in rw (h.0, n.0, n.1) refl

  Falls-parts : (xs ys : List X) → Falls p (xs ++ ys)
      → Falls p xs × Falls p ys × (All (λ x. p x ≡ true) xs ⊎ All (λ x. p x ≡ false) ys)
  Falls-parts [] ys f = (tt, f, inl (All-nil (λ x. p x ≡ true)))
  Falls-parts (x ∷ xs) ys (inl h) =
      let i = Falls-parts xs ys h.1 in
      (inl (h.0, i.0), i.1, elim i.2 [ inl a ↦ inl (All-cons (λ y. p y ≡ true) x xs h.0 a) | inr b ↦ inr b ])
  Falls-parts (x ∷ xs) ys (inr h) =
      let b = All-back (λ y. p y ≡ false) xs ys h.1 in
      let n = none_pass ys b in
      (inr (h.0, All-front (λ y. p y ≡ false) xs ys h.1), Falls-below_from ys (rw (n.0, n.1) refl), inr b)

  -- both parts of a list that is partitioned are partitioned, and all of the first pass or none of the second
  pub IsPartitioned-parts : (xs ys : List X) → IsPartitioned p (xs ++ ys)
      → IsPartitioned p xs × IsPartitioned p ys × (All (λ x. p x ≡ true) xs ⊎ All (λ x. p x ≡ false) ys)
  IsPartitioned-parts xs ys c =
      let h = Falls-parts xs ys (Falls-below_from (xs ++ ys) c) in
      (IsPartitioned-from_falls xs h.0, IsPartitioned-from_falls ys h.1, h.2)

  -- so many elements from an index on of a list that is partitioned are partitioned
  pub IsPartitioned-range : (xs : List X) (from n : ℕ) → IsPartitioned p xs → IsPartitioned p (take n (drop from xs))
  IsPartitioned-range xs from n c =
      let ys = drop from xs in
      let rest = (IsPartitioned-parts (take from xs) ys (rw (take-append-drop from xs) c)).1 in
      (IsPartitioned-parts (take n ys) (drop n ys) (rw (take-append-drop n ys) rest)).0

  -- behind one that fails all fail
  pub rest_fails : (x : X) (xs : List X) → IsPartitioned p (x ∷ xs) → p x ≡ false → All (λ y. p y ≡ false) (x ∷ xs)
  rest_fails x xs c f =
      elim (Falls-below_from (x ∷ xs) c) [
        | inl h ↦ absurd (not_both (p x) h.0 f)
        | inr h ↦ All-cons (λ y. p y ≡ false) x xs h.0 h.1
      ]

  -- those that pass, where all before a part and none behind it does
  pub filter_around : (a c b : List X) → All (λ x. p x ≡ true) a → All (λ x. p x ≡ false) b
      → filter p (a ++ (c ++ b)) ≡ a ++ filter p c
  filter_around a c b t f =
      rw (filter-append p a (c ++ b), (none_fail a t).0, filter-append p c b, (none_pass b f).0, append-nil (filter p c)) refl

  -- what a binary search asks
  pub partitioned : (xs : List X) → IsPartitioned p xs → IsPartitionedBy p xs
  partitioned xs c = by_falls xs (Falls-below_from xs c)
    where
      by_falls : (xs : List X) → Falls p xs → IsPartitionedBy p xs
      by_falls [] f i j d le lt h = absurd (omega arith)
      by_falls (x ∷ xs) (inl a) zero j d le lt h = a.0
      by_falls (x ∷ xs) (inl a) (suc i) zero d le lt h = absurd (omega arith)
      by_falls (x ∷ xs) (inl a) (suc i) (suc j) d le lt h = by_falls xs a.1 i j d (omega arith) (omega arith) h
      by_falls (x ∷ xs) (inr b) i j d le lt h =
          absurd (not_both (p (get_or (x ∷ xs) j d)) h (All-cons (λ y. p y ≡ false) x xs b.0 b.1 j d lt))

  -- and what it finds
  pub parted_at : (xs : List X) (i : ℕ) → i ≤ length xs
      → IsPartitionPoint (λ x. p x ≡ true) (λ x. p x ≡ false) xs i
      → (take i xs ≡ filter p xs) × (drop i xs ≡ filter (λ x. not (p x)) xs)
  parted_at xs i le h =
      let front = none_fail (take i xs) (λ k d within.
      let before : k < i = omega (arith, length-take i xs) in
      rw (get_or-take i xs k d before) (h.0 k d (omega arith) before)) in
      let back = none_pass (drop i xs) (λ k d within.
      rw (get_or-drop i xs k d) (h.1 (i + k) d (omega arith) (omega (arith, length-drop i xs)))) in (
        cc (take-append-drop i xs, filter-append p (take i xs) (drop i xs), front.0, back.0, append-nil (take i xs)),
        cc (take-append-drop i xs, filter-append (λ x. not (p x)) (take i xs) (drop i xs), front.1, back.1),
      )

  pub length-items_below : (xs : List X) → length (filter p xs) ≤ length xs
  length-items_below xs = omega (arith, length-filter_both p (λ x. not (p x)) (λ x. refl) xs)
