-- Putting items in order keeps what holds of each, and commutes with what they are about; they are in order then.
use Rattle.std.specs.Prelude.{◌≡◌, ℤ, int_lt, true, false, List, [], ◌∷◌, map, fold}
use Rattle.std.specs.List.{All}
use Rattle.std.proofs.Common.{refl, sym, ap, ◌∙◌, subst, inl, inr, arith}
use Rattle.std.proofs.lemmas.Bool.{cond-true, cond-false, cases_Bool}
use Rattle.std.proofs.lemmas.List.Elements.{All-cons, All-head, All-tail}
use Rattle.std.proofs.lemmas.Int.{ints}
use Rattle.keyspace.specs.storage.InOrder.{put_in_order, in_order_by, NoneBefore, Rise}

module _ {X : Type 0} (P : X → Type 0) (version : X → ℤ) where
  All-put : (xs : List X) (x : X) → P x → All P xs → All P (put_in_order version xs x)
  All-put [] x one all = All-cons P x [] one all
  All-put (y ∷ ys) x one all =
      elim (cases_Bool (int_lt (version x) (version y))) [
        | inl before ↦ subst (All P) (sym (cond-true _ _ _ before)) (All-cons P x (y ∷ ys) one all)
        | inr after ↦ subst (All P) (sym (cond-false _ _ _ after))
            (All-cons P y (put_in_order version ys x) (All-head P y ys all) (All-put ys x one (All-tail P y ys all)))
      ]

  All-put_all : (start received : List X) → All P start → All P received
      → All P (fold (put_in_order version) start received)
  All-put_all start [] before all = before
  All-put_all start (x ∷ received) before all =
      All-put_all (put_in_order version start x) received (All-put start x (All-head P x received all) before)
      (All-tail P x received all)

  pub All-in_order : (received : List X) → All P received → All P (in_order_by version received)
  All-in_order received all = All-put_all [] received (λ k d inside. absurd (omega arith)) all

module _ {X Y : Type 0} (reports : X → Y) (version : X → ℤ) (item_version : Y → ℤ) where
  -- its version is that of what it is about
  abbrev Agrees : X → Type 0
  Agrees x = version x ≡ item_version (reports x)

  map-put : (xs : List X) (x : X) → Agrees x → All Agrees xs
      → map reports (put_in_order version xs x) ≡ put_in_order item_version (map reports xs) (reports x)
  map-put [] x one all = refl
  map-put (y ∷ ys) x one all =
      let first = All-head Agrees y ys all in
      let same : int_lt (item_version (reports x)) (item_version (reports y)) ≡ int_lt (version x) (version y) =
      sym (λ i. int_lt (one i) (first i)) in
      elim (cases_Bool (int_lt (version x) (version y))) [
        | inl before ↦
            ap (map reports) (cond-true _ _ _ before) ∙ sym (cond-true _ _ _ (same ∙ before))
        | inr after ↦
            ap (map reports) (cond-false _ _ _ after)
            ∙ ap (λ l. reports y ∷ l) (map-put ys x one (All-tail Agrees y ys all))
            ∙ sym (cond-false _ _ _ (same ∙ after))
      ]

  map-put_all : (start received : List X) → All Agrees start → All Agrees received
      → map reports (fold (put_in_order version) start received)
      ≡ fold (put_in_order item_version) (map reports start) (map reports received)
  map-put_all start [] before all = refl
  map-put_all start (x ∷ received) before all =
      let one = All-head Agrees x received all in
      map-put_all (put_in_order version start x) received (All-put Agrees version start x one before)
      (All-tail Agrees x received all)
      ∙ ap (λ l. fold (put_in_order item_version) l (map reports received)) (map-put start x one before)

  pub map-in_order : (received : List X) → All Agrees received
      → map reports (in_order_by version received) ≡ in_order_by item_version (map reports received)
  map-in_order received all = map-put_all [] received (λ k d inside. absurd (omega arith)) all

not_before_lesser : (lesser version other : ℤ) → int_lt lesser version ≡ true → int_lt other version ≡ false
    → int_lt other lesser ≡ false
not_before_lesser lesser version other below far =
    elim (cases_Bool (int_lt other lesser)) [
      | inl before ↦ absurd (never lesser version other below far before)
      | inr after ↦ after
    ]
  where
    never : (lesser version other : ℤ) → int_lt lesser version ≡ true → int_lt other version ≡ false
        → int_lt other lesser ≡ true → ⊥
    never lesser version other below far before = omega (arith, ints)

not_before : (lesser version : ℤ) → int_lt lesser version ≡ true → int_lt version lesser ≡ false
not_before lesser version below =
    elim (cases_Bool (int_lt version lesser)) [
      | inl before ↦ absurd (never lesser version below before)
      | inr after ↦ after
    ]
  where
    never : (lesser version : ℤ) → int_lt lesser version ≡ true → int_lt version lesser ≡ true → ⊥
    never lesser version below before = omega (arith, ints)

module _ {X : Type 0} (version : X → ℤ) where
  NoneBefore-lesser : (lesser least : ℤ) (xs : List X) → int_lt lesser least ≡ true → NoneBefore version least xs
      → NoneBefore version lesser xs
  NoneBefore-lesser lesser least [] below none = tt
  NoneBefore-lesser lesser least (x ∷ xs) below none =
      (not_before_lesser lesser least (version x) below none.0, NoneBefore-lesser lesser least xs below none.1)

  NoneBefore-put : (least : ℤ) (xs : List X) (x : X) → int_lt (version x) least ≡ false → NoneBefore version least xs
      → NoneBefore version least (put_in_order version xs x)
  NoneBefore-put least [] x far none = (far, tt)
  NoneBefore-put least (y ∷ ys) x far none =
      elim (cases_Bool (int_lt (version x) (version y))) [
        | inl before ↦ subst (NoneBefore version least) (sym (cond-true _ _ _ before)) (far, none)
        | inr after ↦ subst (NoneBefore version least) (sym (cond-false _ _ _ after))
            (none.0, NoneBefore-put least ys x far none.1)
      ]

  Rise-put : (xs : List X) (x : X) → Rise version xs → Rise version (put_in_order version xs x)
  Rise-put [] x rise = (tt, tt)
  Rise-put (y ∷ ys) x rise =
      elim (cases_Bool (int_lt (version x) (version y))) [
        | inl before ↦ subst (Rise version) (sym (cond-true _ _ _ before)) (
          (not_before (version x) (version y) before, NoneBefore-lesser (version x) (version y) ys before rise.0),
          rise,
        )
        | inr after ↦ subst (Rise version) (sym (cond-false _ _ _ after))
            (NoneBefore-put (version y) ys x after rise.0, Rise-put ys x rise.1)
      ]

  Rise-put_all : (start received : List X) → Rise version start → Rise version (fold (put_in_order version) start received)
  Rise-put_all start [] rise = rise
  Rise-put_all start (x ∷ received) rise = Rise-put_all (put_in_order version start x) received (Rise-put start x rise)

  pub Rise-in_order : (received : List X) → Rise version (in_order_by version received)
  Rise-in_order received = Rise-put_all [] received tt
