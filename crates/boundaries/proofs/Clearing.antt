-- Boundaries of a range are taken out, those at its end: it can be written then as before.
use Rattle.std.proofs.Common.{◌≡◌, ◌≢◌, ℕ, ◌<◌, ◌≤◌, ◌&&◌, Bool, true, false, not, List, [], ◌∷◌, ◌++◌, length, length-append, filter, refl, sym, ap, ap₂, subst, ◌∙◌, inl, inr, arith, append_assoc}
use Rattle.std.specs.Prelude.{ℤ, negsuc, ◌≤ℤ◌, All, Any}
use Rattle.std.proofs.lemmas.Bool.{cases_Bool}
use Rattle.std.proofs.lemmas.List.{append-nil}
use Rattle.std.proofs.lemmas.List.Elements.{All-append, All-weaker, filter-append, filter_passes}
use Rattle.keys.specs.Key.{IsKey, is_before}
use Rattle.keys.specs.Range.{IsEmpty}
use Rattle.keys.specs.declared.range.Range.{Range}
use Rattle.keys.proofs.callers.Booleans.{and_left, and_right, false_unless, not_both_ways}
use Rattle.keys.proofs.callers.KeyOrder.{before_trans}
use Rattle.boundaries.specs.Path.{IsPartitioned}
use Rattle.boundaries.proofs.callers.Partitions.{All-front, All-back, not_true, IsPartitioned-parts}
use Rattle.boundaries.specs.Boundary.{Boundary, AreBoundaries, AreInOrder, RiseFrom, below, from_on}
use Rattle.boundaries.specs.Written.{closed_at, written_to}
use Rattle.boundaries.proofs.Closing.{closed_same}
use Rattle.boundaries.proofs.callers.LeftFrom.{filter_yes, filter_no}
use Rattle.boundaries.proofs.callers.Order.{rise_lower, rise_swap, rising_in_order}
use Rattle.boundaries.proofs.callers.Values.{parted_below}
use Rattle.boundaries.proofs.callers.WritingValues.{begins_before_end}

-- two bounds, the first before the second, part a list in three
module _ {X : Type 0} (p q : X → Bool) where
  filter_twice : ((x : X) → p x ≡ true → q x ≡ true) → (xs : List X) → filter p (filter q xs) ≡ filter p xs
  filter_twice nested [] = refl
  filter_twice nested (x ∷ xs) =
      let i = filter_twice nested xs in
      elim (cases_Bool (p x)) [
        | inl t ↦ let u : q x ≡ true = nested x t in rw (u, t) (ap (λ l. x ∷ l) i)
        | inr f ↦ elim (cases_Bool (q x)) [ inl u ↦ rw (u, f) i | inr n ↦ rw (n, f) i ]
      ]

  filter_between : (xs : List X) → filter (λ x. not (p x)) (filter q xs) ≡ filter (λ x. not (p x) && q x) xs
  filter_between [] = refl
  filter_between (x ∷ xs) =
      let i = filter_between xs in
      elim (cases_Bool (q x)) [
        | inl u ↦ elim (cases_Bool (p x)) [
          | inl t ↦ rw (u, t) i
          | inr f ↦ rw (u, f) (ap (λ l. x ∷ l) i)
        ]
        | inr n ↦ elim (cases_Bool (p x)) [ inl t ↦ rw (n, t) i | inr f ↦ rw (n, f) i ]
      ]

  module _ (nested : (x : X) → p x ≡ true → q x ≡ true) (xs : List X) (first : IsPartitioned p xs) (second : IsPartitioned q xs) where
    pub two_parts : filter q xs ≡ filter p xs ++ filter (λ x. not (p x) && q x) xs
    two_parts =
        let inner : IsPartitioned p (filter q xs) =
        (IsPartitioned-parts p (filter q xs) (filter (λ x. not (q x)) xs) (subst (IsPartitioned p) second first)).0 in
        inner ∙ ap (λ l. l ++ filter (λ x. not (p x)) (filter q xs)) (filter_twice nested xs)
        ∙ ap (λ l. filter p xs ++ l) (filter_between xs)

    pub three_parts : xs ≡ filter p xs ++ (filter (λ x. not (p x) && q x) xs ++ filter (λ x. not (q x)) xs)
    three_parts =
        let rest = filter (λ x. not (q x)) xs in
        second ∙ ap (λ l. l ++ rest) two_parts ∙ append_assoc (filter p xs) (filter (λ x. not (p x) && q x) xs) rest

-- what is left of boundaries in order is in order, where the first of them stays
rise_without : (k : List ℕ) (ms ys : List Boundary) → RiseFrom k (ms ++ ys) → RiseFrom k ys
rise_without k [] ys r = r
rise_without k (m ∷ ms) ys r = rise_lower k m.key ys r.0 (rise_without m.key ms ys r.1)

in_order_without : (xs ms ys : List Boundary) → xs ≢ [] → AreInOrder (xs ++ (ms ++ ys)) → AreInOrder (xs ++ ys)
in_order_without [] ms ys some o = absurd (some refl)
in_order_without (x ∷ xs) ms ys some o =
    (o.0, rise_swap x.key xs (ms ++ ys) ys o.1 (λ j. rise_without j ms ys))

module _ (range : Range) (filled : ¬ IsEmpty range) (bs : List Boundary) where
  abbrev p : Boundary → Bool
  p b = is_before b.key range.begin

  abbrev q : Boundary → Bool
  q b = is_before b.key range.end

  -- the boundaries of the range
  abbrev pub inside : List Boundary
  inside = filter (λ b. not (is_before b.key range.begin) && is_before b.key range.end) bs

  abbrev front : List Boundary
  front = below range.begin bs

  abbrev rest : List Boundary
  rest = from_on range.end bs

  nested : (b : Boundary) → p b ≡ true → q b ≡ true
  nested b l = before_trans b.key range.begin range.end l (begins_before_end range filled)

  module _ (order : AreInOrder bs) (kept out : List Boundary) (is : inside ≡ kept ++ out) where
    -- those that are left
    abbrev pub left : List Boundary
    left = front ++ (kept ++ rest)

    entire : bs ≡ (front ++ kept) ++ (out ++ rest)
    entire =
        let r = rising_in_order bs order in
        three_parts p q nested bs (parted_below range.begin bs r) (parted_below range.end bs r)
        ∙ ap (λ l. front ++ (l ++ rest)) is ∙ ap (λ l. front ++ l) (append_assoc kept out rest)
        ∙ sym (append_assoc front kept (out ++ rest))

    left_is : (front ++ kept) ++ rest ≡ left
    left_is = append_assoc front kept rest

    left_has : (P : Boundary → Type 0) → All P bs → All P left
    left_has P all =
        let a = subst (All P) entire all in
        subst (All P) left_is
        (All-append P (front ++ kept) rest (All-front P (front ++ kept) (out ++ rest) a)
        (All-back P out rest (All-back P (front ++ kept) (out ++ rest) a)))

    pub fewer_left : out ≢ [] → length left < length bs
    fewer_left some =
        omega (
          arith,
          ap length entire,
          length-append (front ++ kept) (out ++ rest),
          length-append out rest,
          ap length left_is,
          length-append (front ++ kept) rest,
          some_in out some,
        )
      where
        some_in : (xs : List Boundary) → xs ≢ [] → 1 ≤ length xs
        some_in [] some = absurd (some refl)
        some_in (x ∷ xs) some = omega arith

    pub left_in_order : front ++ kept ≢ [] → AreInOrder left
    left_in_order some =
        subst AreInOrder left_is (in_order_without (front ++ kept) out rest some (subst AreInOrder entire order))

    pub left_boundaries : front ++ kept ≢ [] → AreBoundaries bs → AreBoundaries left
    left_boundaries some h = record {
      in_order = left_in_order some;
      keys = left_has (λ b. IsKey b.key) h.keys;
      versions = left_has (λ b. negsuc 0 ≤ℤ b.version) h.versions;
    }

    kept_inside : All (λ b. (not (p b) && q b) ≡ true) kept
    kept_inside =
        let Inside = λ (b : Boundary). (not (p b) && q b) ≡ true in
        All-front Inside kept out (subst (All Inside) is (filter_passes (λ b. not (p b) && q b) bs))

    -- what comes before the range stays as it was, and so does what comes behind it
    below_left : below range.begin left ≡ front
    below_left =
        let all : filter p front ≡ front = filter_yes p front (filter_passes p bs) in
        let none : filter p rest ≡ [] =
        filter_no p rest (All-weaker (λ b. not (q b) ≡ true) (λ b. p b ≡ false)
        (λ b n. false_unless (p b) (λ t. not_both_ways (q b) (nested b t) (not_true (q b) n))) rest
        (filter_passes (λ b. not (q b)) bs)) in
        let fail : filter p kept ≡ [] =
        filter_no p kept (All-weaker (λ b. (not (p b) && q b) ≡ true) (λ b. p b ≡ false)
        (λ b t. not_true (p b) (and_left (not (p b)) (q b) t)) kept kept_inside) in
        filter-append p front (kept ++ rest)
        ∙ ap₂ (λ xs ys. xs ++ ys) all (filter-append p kept rest ∙ ap₂ (λ xs ys. xs ++ ys) fail none)
        ∙ append-nil front

    from_left : from_on range.end left ≡ rest
    from_left =
        let r : Boundary → Bool = λ b. not (q b) in
        let all : filter r rest ≡ rest = filter_yes r rest (filter_passes r bs) in
        let none : filter r front ≡ [] =
        filter_no r front (All-weaker (λ b. p b ≡ true) (λ b. r b ≡ false)
        (λ b t. ap not (nested b t)) front (filter_passes p bs)) in
        let fail : filter r kept ≡ [] =
        filter_no r kept (All-weaker (λ b. (not (p b) && q b) ≡ true) (λ b. r b ≡ false)
        (λ b t. ap not (and_right (not (p b)) (q b) t)) kept kept_inside) in
        filter-append r front (kept ++ rest)
        ∙ ap₂ (λ xs ys. xs ++ ys) none (filter-append r kept rest ∙ ap₂ (λ xs ys. xs ++ ys) fail all)

    -- The version at the end counts only where no boundary stands there.
    pub left_written : (version v w : ℤ) → (¬ Any (λ b. b.key ≡ range.end) bs → v ≡ w)
        → written_to range version v left ≡ written_to range version w bs
    left_written version v w same =
        ap₂ (λ xs ys. xs ++ record { key = range.begin; version = version } ∷ ys) below_left
        (ap (closed_at range.end v) from_left ∙ closed_same range.end v w bs order same)
