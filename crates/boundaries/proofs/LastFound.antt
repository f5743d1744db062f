-- The last item that is below a bound, and what it says of the boundaries up to a key.
use Rattle.std.proofs.Common.{
  ◌≡◌,
  ◌≢◌,
  ℕ,
  Bool,
  true,
  false,
  not,
  List,
  [],
  ◌∷◌,
  ◌++◌,
  filter,
  refl,
  sym,
  ◌∙◌,
  ap,
  subst,
  inl,
  inr,
  append_assoc,
}
use Rattle.std.specs.Prelude.{ℤ, negsuc, All, Any}
use Rattle.std.proofs.lemmas.List.{map-append}
use Rattle.std.proofs.lemmas.List.Elements.{All-nil, All-cons, All-head, filter_passes}
use Rattle.boundaries.specs.Item.{Item}
use Rattle.boundaries.specs.Path.{items_below}
use Rattle.boundaries.specs.Items.{IsLast}
use Rattle.boundaries.proofs.callers.Partitions.{All-back}
use Rattle.keys.specs.Key.{is_before, IsBefore}
use Rattle.keys.proofs.callers.KeyOrder.{not_before_itself}
use Rattle.keys.proofs.callers.Booleans.{not_both_ways}
use Rattle.boundaries.specs.Boundary.{Boundary, AreInOrder, value_at, last_version}
use Rattle.boundaries.proofs.Indexes.{up_to, after}
use Rattle.boundaries.specs.Bound.{is_below_at, slot_is_below}
use Rattle.boundaries.specs.Stored.{boundary_of}
use Rattle.boundaries.proofs.StoredItems.{AreKept, boundaries_in}
use Rattle.boundaries.specs.Bound.{Keys}
use Rattle.keys.proofs.callers.KeyOrder.{not_before_if}
use Rattle.boundaries.proofs.callers.Order.{Rising, rising_in_order, rise_middle}
use Rattle.boundaries.proofs.callers.LeftFrom.{not_not}
use Rattle.boundaries.proofs.callers.Parting.{parted}
use Rattle.boundaries.proofs.IndexFound.{up_to_empty, up_to_falls, value_up_to}
use Rattle.keys.proofs.callers.SomeElement.{Any-parts, Any-push_cases}
use Rattle.boundaries.proofs.Partitioning.{stored_partitioned}

-- the version of the last boundary counts
pub last_version_last : (v : ℤ) (xs : List Boundary) (b : Boundary) → last_version v (xs ++ b ∷ []) ≡ b.version
last_version_last v [] b = refl
last_version_last v (x ∷ xs) b = last_version_last x.version xs b

-- all before a boundary come before it
before_rising : (xs : List Boundary) (b : Boundary) (ys : List Boundary) → Rising (xs ++ b ∷ ys)
    → All (λ x. IsBefore x.key b.key) xs
before_rising [] b ys r = All-nil (λ x. IsBefore x.key b.key)
before_rising (x ∷ xs) b ys r =
    let m = rise_middle x.key xs b ys r in
    All-cons (λ x. IsBefore x.key b.key) x xs m.first m.before

-- what holds of all elements holds of one that something else holds of
some_of_all : {X : Type 0} (P Q : X → Type 0) (xs : List X) → All P xs → Any Q xs → (x : X) × P x × Q x
some_of_all P Q xs all a = (a.1, subst P a.3 (all a.0 a.1 a.2), a.4)

module _ (key : List ℕ) (bs : List Boundary) (o : AreInOrder bs) where
  -- that at the empty key isn't after the key
  pub some_up_to : up_to key bs ≢ []
  some_up_to = begins bs o
    where
      begins : (bs : List Boundary) → AreInOrder bs → up_to key bs ≢ []
      begins [] o e = absurd o
      begins (b ∷ bs) o e = let t = up_to_empty key b o.0 in let k : b ∷ up_to key bs ≡ [] = rw t at e in cc

  pub parted_up_to : bs ≡ up_to key bs ++ after key bs
  parted_up_to =
      parted (λ b. not (is_before key b.key)) (λ b. is_before key b.key) (λ b. not_not (is_before key b.key))
      (up_to_falls key) bs (rising_in_order bs o)

  module _ (b : Boundary) (last : IsLast b (up_to key bs)) where
    around : bs ≡ last.0 ++ b ∷ after key bs
    around =
        parted_up_to ∙ ap (λ xs. xs ++ after key bs) last.1 ∙ append_assoc last.0 (b ∷ []) (after key bs)

    pub value_of_last : value_at bs key ≡ b.version
    value_of_last =
        value_up_to bs key parted_up_to ∙ ap (last_version (negsuc 0)) last.1
        ∙ last_version_last (negsuc 0) last.0 b

    not_after : is_before key b.key ≡ false
    not_after =
        let all = filter_passes (λ c. not (is_before key c.key)) bs in
        let own = subst (All (λ c. not (is_before key c.key) ≡ true)) last.1 all in
        not_before_if b.key key
        (All-head (λ c. not (is_before key c.key) ≡ true) b []
        (All-back (λ c. not (is_before key c.key) ≡ true) last.0 (b ∷ []) own))

    -- where one stands at the key, it is the last one
    pub last_if_there : Any (λ c. c.key ≡ key) bs → b.key ≡ key
    last_if_there a =
        let At = λ (c : Boundary). c.key ≡ key in
        let rising : Rising (last.0 ++ b ∷ after key bs) = subst Rising around (rising_in_order bs o) in
        let parts : Any At ((last.0 ++ b ∷ []) ++ after key bs) =
        subst (Any At) (parted_up_to ∙ ap (λ xs. xs ++ after key bs) last.1) a in
        elim (Any-parts At (last.0 ++ b ∷ []) (after key bs) parts) [
          | inl in_front ↦ elim (Any-push_cases At last.0 b in_front) [
            | inl sooner ↦
                let c = some_of_all (λ c. IsBefore c.key b.key) At last.0
                (before_rising last.0 b (after key bs) rising) sooner in
                absurd (not_both_ways (is_before key b.key) (subst (λ k. IsBefore k b.key) c.2 c.1) not_after)
            | inr own ↦ own
          ]
          | inr later ↦
              let c = some_of_all (λ c. IsBefore key c.key) At (after key bs)
              (filter_passes (λ c. is_before key c.key) bs) later in
              absurd (not_both_ways (is_before key key) (subst (IsBefore key) c.2 c.1) (not_before_itself key))
        ]

module _ (keys : Keys) (items : List Item) (s : AreKept keys items) where
  -- some item is below a bound up to a key
  pub some_is_below : (key : List ℕ) → items_below (slot_is_below keys true key) items ≢ []
  some_is_below key none =
      some_up_to key (boundaries_in keys items) s.in_order
      (sym (stored_partitioned keys items s true key).before ∙ ap (boundaries_in keys) none)

  module _ (up_to : Bool) (key : List ℕ) (x : Item)
      (last : IsLast x (items_below (slot_is_below keys up_to key) items)) where
    -- the last item's boundary is the last one below the bound
    pub last_boundary :
        IsLast (boundary_of keys x) (filter (λ b. is_below_at up_to key b.key) (boundaries_in keys items))
    last_boundary = (
      boundaries_in keys last.0,
      sym (stored_partitioned keys items s up_to key).before ∙ ap (boundaries_in keys) last.1
          ∙ map-append (boundary_of keys) last.0 (x ∷ []),
    )
