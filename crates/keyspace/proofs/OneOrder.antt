-- A list in order is given by its elements that tie with each: two lists in order that agree on these are one.
use Rattle.std.specs.Prelude.{
  ◌≡◌,
  ℕ,
  suc,
  ◌<◌,
  ◌≤◌,
  Bool,
  true,
  false,
  not,
  ◌&&◌,
  List,
  [],
  ◌∷◌,
  length,
  ⊤,
  filter,
  slice_index_or as get_or,
}
use Rattle.std.proofs.Common.{refl, sym, ap, ◌∙◌, arith, inl, inr}
use Rattle.std.proofs.lemmas.Bool.{cond-true, cond-false, cases_Bool, and_parts, not-true}
use Rattle.std.proofs.lemmas.List.Sorted.{sorted_far}
use Rattle.std.specs.Cmp.{IsStrictWeakOrder}
use Rattle.std.specs.List.Sorted.{IsSortedBy, ties}

both_not : (b c : Bool) → b ≡ false → c ≡ false → not b && not c ≡ true
both_not b c left right = λ i. not (left i) && not (right i)

not_itself : (b : Bool) → (b ≡ true → b ≡ false) → b ≡ false
not_itself true h = h refl
not_itself false h = refl

pub filter-kept : {X : Type 0} (p : X → Bool) (y : X) (ys : List X) → p y ≡ true
    → filter p (y ∷ ys) ≡ y ∷ filter p ys
filter-kept p y ys h = cond-true _ _ _ h

pub filter-dropped : {X : Type 0} (p : X → Bool) (y : X) (ys : List X) → p y ≡ false
    → filter p (y ∷ ys) ≡ filter p ys
filter-dropped p y ys h = cond-false _ _ _ h

module _ {X : Type 0} (lt : X → X → Bool) (order : IsStrictWeakOrder lt) where
  -- none of the list is below x
  abbrev pub NoneBelow : X → List X → Type 0
  NoneBelow x [] = ⊤
  NoneBelow x (y ∷ ys) = (lt y x ≡ false) × NoneBelow x ys

  -- none is below one before it
  abbrev pub Rises : List X → Type 0
  Rises [] = ⊤
  Rises (y ∷ ys) = NoneBelow y ys × Rises ys

  pub not_below_itself : (x : X) → lt x x ≡ false
  not_below_itself x = not_itself (lt x x) (order.one_way x x)

  pub ties-parts : (x y : X) → ties lt x y ≡ true → (lt x y ≡ false) × (lt y x ≡ false)
  ties-parts x y h = let parts = and_parts (not (lt x y)) (not (lt y x)) h in
      (not-true _ parts.0, not-true _ parts.1)

  ties_itself : (x : X) → ties lt x x ≡ true
  ties_itself x = both_not _ _ (not_below_itself x) (not_below_itself x)

  NoneBelow-at : (x : X) (ys : List X) → ((k : ℕ) → k < length ys → lt (get_or ys k x) x ≡ false)
      → NoneBelow x ys
  NoneBelow-at x [] h = tt
  NoneBelow-at x (y ∷ ys) h = (h 0 (omega arith), NoneBelow-at x ys (λ k p. h (suc k) (omega arith)))

  Rises-at : (ys : List X) → ((i j : ℕ) (d : X) → i ≤ j → j < length ys
      → lt (get_or ys j d) (get_or ys i d) ≡ false) → Rises ys
  Rises-at [] h = tt
  Rises-at (y ∷ ys) h = (
    NoneBelow-at y ys (λ k p. h 0 (suc k) y (omega arith) (omega arith)),
    Rises-at ys (λ i j d p q. h (suc i) (suc j) d (omega arith) (omega arith)),
  )

  pub Rises-from_sorted : (ys : List X) → IsSortedBy lt ys → Rises ys
  Rises-from_sorted ys sorted = Rises-at ys (sorted_far lt order ys sorted)

  -- one that ties with x is in the list, so x is not below what none of the list is below
  NoneBelow-found : (low x : X) (ys : List X) (w : X) (ws : List X) → NoneBelow low ys
      → filter (ties lt x) ys ≡ w ∷ ws → lt x low ≡ false
  NoneBelow-found low x [] w ws none e = cc
  NoneBelow-found low x (y ∷ ys) w ws none e =
      elim (cases_Bool (ties lt x y)) [
        | inl with ↦ order.chain x y low (ties-parts x y with).0 none.0
        | inr without ↦ NoneBelow-found low x ys w ws none.1 (sym (filter-dropped (ties lt x) y ys without)
            ∙ e)
      ]

  pub same_from_ties : (ys zs : List X) → Rises ys → Rises zs
      → ((x : X) → filter (ties lt x) ys ≡ filter (ties lt x) zs) → ys ≡ zs
  same_from_ties [] [] left right same = refl
  same_from_ties [] (z ∷ zs) left right same =
      let clash = same z ∙ filter-kept (ties lt z) z zs (ties_itself z) in cc
  same_from_ties (y ∷ ys) [] left right same =
      let clash = sym (same y) ∙ filter-kept (ties lt y) y ys (ties_itself y) in cc
  same_from_ties (y ∷ ys) (z ∷ zs) left right same =
      let at_y = filter-kept (ties lt y) y ys (ties_itself y) in
      let at_z = filter-kept (ties lt z) z zs (ties_itself z) in
      let y_not_below =
      NoneBelow-found z y (z ∷ zs) y _ (not_below_itself z, right.0) (sym (same y) ∙ at_y) in
      let z_not_below = NoneBelow-found y z (y ∷ ys) z _ (not_below_itself y, left.0) (same z ∙ at_z) in
      let heads = sym at_y ∙ same y ∙ filter-kept (ties lt y) z zs (both_not _ _ y_not_below z_not_below) in
      let head : y ≡ z = cc in
      let tails : (x : X) → filter (ties lt x) ys ≡ filter (ties lt x) zs =
      λ x. elim (cases_Bool (ties lt x y)) [
        | inl with ↦
            let both = sym (filter-kept (ties lt x) y ys with) ∙ same x
            ∙ filter-kept (ties lt x) z zs (ap (ties lt x) (sym head) ∙ with) in cc
        | inr without ↦
            sym (filter-dropped (ties lt x) y ys without) ∙ same x
            ∙ filter-dropped (ties lt x) z zs (ap (ties lt x) (sym head) ∙ without)
      ] in
      ap (λ w. w ∷ ys) head ∙ ap (λ l. z ∷ l) (same_from_ties ys zs left.1 right.1 tails)
