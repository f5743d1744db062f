-- Lemmas for callers: a sweep of all boundaries.
use Rattle.std.proofs.Common.{
  ◌≡◌,
  ℕ,
  not,
  List,
  [],
  ◌∷◌,
  ◌++◌,
  take,
  drop,
  refl,
  sym,
  ◌∙◌,
  ap,
  subst,
  inl,
  append_assoc,
  take-append-drop,
  length,
  ◌≤◌,
  arith,
  length-append,
}
use Rattle.std.specs.Prelude.{ℤ, negsuc, All}
use Rattle.std.proofs.lemmas.List.Elements.{All-append, All-cons, All-filter, All-take, All-drop}
use Rattle.keys.specs.Key.{IsBefore}
use Rattle.boundaries.specs.Boundary.{Boundary, AreInOrder, RiseFrom, value_at, last_version}
use Rattle.boundaries.specs.Swept.{unexpired_boundaries, is_left, left_from, passed_to, boundaries_after_sweep}
use Rattle.boundaries.proofs.callers.Order.{rising_in_order, rising_from, rise_filter, rise_swap, rise_middle}
use Rattle.boundaries.proofs.callers.Unexpired.{
  SameOrBelow,
  unexpired_has,
  unexpired_rises,
  unexpired_values,
  values_after,
  unexpired_shorter,
}
use Rattle.boundaries.proofs.callers.LeftFrom.{parted_left, empty_passed}

module _ (edge : ℤ) (cursor : List ℕ) (count : ℕ) where
  -- the boundaries that it leaves
  abbrev pub new_of : List Boundary → List Boundary
  new_of bs = boundaries_after_sweep edge count (passed_to cursor bs) (left_from cursor bs)

  abbrev pub last_passed : List Boundary → ℤ
  last_passed bs = last_version (negsuc 0) (passed_to cursor bs)

  abbrev pub looked : List Boundary → List Boundary
  looked bs = take count (left_from cursor bs)

  abbrev pub unseen : List Boundary → List Boundary
  unseen bs = drop count (left_from cursor bs)

  pub in_parts : (bs : List Boundary) → AreInOrder bs → bs ≡ passed_to cursor bs ++ (looked bs ++ unseen bs)
  in_parts bs o = parted_left cursor bs (rising_in_order bs o)
      ∙ ap (λ xs. passed_to cursor bs ++ xs) (sym (take-append-drop count (left_from cursor bs)))

  pub swept_has : (P : Boundary → Type 0) (bs : List Boundary) → All P bs → All P (new_of bs)
  swept_has P bs a =
      let left = All-filter (is_left cursor) P bs a in
      All-append P (passed_to cursor bs) (unexpired_boundaries edge (last_passed bs) (looked bs) ++ unseen bs)
      (All-filter (λ b. not (is_left cursor b)) P bs a)
      (All-append P (unexpired_boundaries edge (last_passed bs) (looked bs)) (unseen bs)
      (unexpired_has P edge (last_passed bs) (looked bs) (All-take P count (left_from cursor bs) left))
      (All-drop P count (left_from cursor bs) left))

  -- it only removes
  pub swept_shorter : (bs : List Boundary) → AreInOrder bs → length (new_of bs) ≤ length bs
  swept_shorter bs o =
      let fewer = unexpired_shorter edge (last_passed bs) (looked bs) in
      simp length-append (omega (arith, fewer, simp length-append at (ap length (in_parts bs o))))

  -- the parts after the empty key
  rise_parts : (b : Boundary) (bs : List Boundary) → AreInOrder (b ∷ bs)
      → RiseFrom b.key (passed_to cursor bs ++ (looked bs ++ unseen bs))
  rise_parts b bs o =
      subst (RiseFrom b.key) (parted_left cursor bs (rising_from b.key bs o.1)
      ∙ ap (λ xs. passed_to cursor bs ++ xs) (sym (take-append-drop count (left_from cursor bs)))) o.1

  pub swept_in_order : (bs : List Boundary) → AreInOrder bs → AreInOrder (new_of bs)
  swept_in_order [] o = absurd o
  swept_in_order (b ∷ bs) o =
      let none = empty_passed cursor b o.0 in
      rw none (
        o.0,
        rise_swap b.key (passed_to cursor bs) (looked bs ++ unseen bs)
            (unexpired_boundaries edge (last_version b.version (passed_to cursor bs)) (looked bs) ++ unseen bs)
            (rise_parts b bs o)
            (λ j r. unexpired_rises edge (last_version b.version (passed_to cursor bs)) j (looked bs)
            (unseen bs) r),
      )

  pub swept_values : (bs : List Boundary) (key : List ℕ) → AreInOrder bs
      → SameOrBelow edge (value_at bs key) (value_at (new_of bs) key)
  swept_values [] key o = absurd o
  swept_values (b ∷ bs) key o =
      let left = left_from cursor (b ∷ bs) in
      let none = empty_passed cursor b o.0 in
      let rises : RiseFrom b.key left = rw none (rise_filter (is_left cursor) b.key bs o.1) in
      let parts : RiseFrom b.key (looked (b ∷ bs) ++ unseen (b ∷ bs)) =
      subst (RiseFrom b.key) (sym (take-append-drop count left)) rises in
      subst (λ xs. SameOrBelow edge (value_at xs key) (value_at (new_of (b ∷ bs)) key))
      (sym (in_parts (b ∷ bs) o))
      (values_after edge (negsuc 0) key (passed_to cursor (b ∷ bs)) (looked (b ∷ bs) ++ unseen (b ∷ bs))
      (unexpired_boundaries edge (last_passed (b ∷ bs)) (looked (b ∷ bs)) ++ unseen (b ∷ bs))
      (unexpired_values edge (last_passed (b ∷ bs)) (last_passed (b ∷ bs)) b.key key (looked (b ∷ bs))
      (unseen (b ∷ bs)) (inl refl) parts))

  -- where one is left unseen, the first is where the sweep goes on
  pub record Stands (bs : List Boundary) (c : Boundary) (cs : List Boundary) : Type 0 where
    pub is : new_of bs ≡ (passed_to cursor bs ++ unexpired_boundaries edge (last_passed bs) (looked bs)) ++ c ∷ cs
    pub filled : IsBefore [] c.key
    pub before : All (λ x. IsBefore x.key c.key)
        (passed_to cursor bs ++ unexpired_boundaries edge (last_passed bs) (looked bs))
    pub after : RiseFrom c.key cs

  new_is : (bs : List Boundary) (c : Boundary) (cs : List Boundary) → unseen bs ≡ c ∷ cs
      → new_of bs ≡ (passed_to cursor bs ++ unexpired_boundaries edge (last_passed bs) (looked bs)) ++ c ∷ cs
  new_is bs c cs e =
      ap (λ xs. passed_to cursor bs ++ (unexpired_boundaries edge (last_passed bs) (looked bs) ++ xs)) e
      ∙ sym (append_assoc (passed_to cursor bs) (unexpired_boundaries edge (last_passed bs) (looked bs)) (c ∷ cs))

  pub stands : (bs : List Boundary) → AreInOrder bs → (c : Boundary) (cs : List Boundary) → unseen bs ≡ c ∷ cs
      → Stands bs c cs
  stands [] o c cs e = absurd o
  stands (b ∷ bs) o c cs e =
      let none = empty_passed cursor b o.0 in
      let is = new_is (b ∷ bs) c cs e in
      let passed =
      passed_to cursor bs ++ unexpired_boundaries edge (last_version b.version (passed_to cursor bs))
      (take count (left_from cursor bs)) in
      let starts : passed_to cursor (b ∷ bs) ≡ b ∷ passed_to cursor bs = rw none refl in
      let left_is : left_from cursor (b ∷ bs) ≡ left_from cursor bs = rw none refl in
      let shape : passed_to cursor (b ∷ bs) ++ unexpired_boundaries edge (last_passed (b ∷ bs)) (looked (b ∷ bs)) ≡ b
      ∷ passed = rw (starts, left_is) refl in
      let order : AreInOrder ((b ∷ passed) ++ c ∷ cs) =
      subst AreInOrder (is ∙ ap (λ xs. xs ++ c ∷ cs) shape) (swept_in_order (b ∷ bs) o) in
      let m = rise_middle b.key passed c cs order.1 in
      record {
        is = is;
        filled = subst (λ k. IsBefore k c.key) o.0 m.first;
        before = subst (All (λ x. IsBefore x.key c.key)) (sym shape)
            (All-cons (λ x. IsBefore x.key c.key) b passed m.first m.before);
        after = m.after;
      }
