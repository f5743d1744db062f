-- A stable sort by version puts items in the order of `in_order_by`.
use Rattle.std.specs.Prelude.{◌≡◌, ℤ, int_lt, Bool, true, false, cond, List, [], ◌∷◌, ◌++◌, filter, fold}
use Rattle.std.proofs.Common.{refl, sym, ap, subst, ◌∙◌, inl, inr, append_assoc, append-nil}
use Rattle.std.proofs.lemmas.Bool.{cond-true, cond-false, cases_Bool, false≢true}
use Rattle.std.proofs.lemmas.Cmp.{int_cmp_total}
use Rattle.std.proofs.lemmas.Fn.{always_returns_same}
use Rattle.std.proofs.lemmas.List.Sorted.{ranks_by}
use Rattle.std.proofs.lemmas.List.Elements.{filter-append}
use Rattle.std.specs.Cmp.{IsStrictWeakOrder}
use Rattle.std.specs.List.Sorted.{
  IsSortedBy,
  IsStableBy,
  IsSortedByKey,
  IsStableByKey,
  IsSortedByKeyClosure,
  IsStableByKeyClosure,
  ties,
}
use Rattle.std.specs.Fn.{Called}
use Rattle.std.specs.Ordering.{int_cmp, is_lt}
use Rattle.std.specs.declared.cmp.Ordering.TheVariants.{Less, Equal, Greater}
use denote.Param.Members.{Mut}
use denote.Ref.{Bor}
use Rattle.keyspace.specs.storage.InOrder.{put_in_order, in_order_by, NoneBefore, Rise}
use Rattle.keyspace.proofs.OneOrder.{
  NoneBelow,
  Rises,
  Rises-from_sorted,
  same_from_ties,
  ties-parts,
  not_below_itself,
  filter-kept,
  filter-dropped,
}

is_lt-cases : (first second : Bool) → is_lt (cond first Less (cond second Greater Equal)) ≡ first
is_lt-cases true second = refl
is_lt-cases false true = refl
is_lt-cases false false = refl

module _ {X : Type 0} (version : X → ℤ) where
  abbrev pub earlier : X → X → Bool
  earlier a b = int_lt (version a) (version b)

  abbrev by_cmp : X → X → Bool
  by_cmp a b = is_lt (int_cmp (version a) (version b))

  by_cmp-earlier : by_cmp ≡ earlier
  by_cmp-earlier =
      λ i a b. is_lt-cases (int_lt (version a) (version b))
      (int_lt (version b) (version a)) i

  pub order : IsStrictWeakOrder earlier
  order = subst (λ (lt : X → X → Bool). IsStrictWeakOrder lt) by_cmp-earlier
      (ranks_by int_cmp_total version)

  put_in_order-before : (a b : X) (bs : List X) → earlier a b ≡ true
      → put_in_order version (b ∷ bs) a ≡ a ∷ b ∷ bs
  put_in_order-before a b bs h = cond-true _ _ _ h

  put_in_order-after : (a b : X) (bs : List X) → earlier a b ≡ false
      → put_in_order version (b ∷ bs) a ≡ b ∷ put_in_order version bs a
  put_in_order-after a b bs h = cond-false _ _ _ h

  NoneBelow-lower : (low a : X) (bs : List X) → earlier a low ≡ false → NoneBelow earlier order a bs
      → NoneBelow earlier order low bs
  NoneBelow-lower low a [] le none = tt
  NoneBelow-lower low a (b ∷ bs) le none = (order.chain b a low none.0 le, NoneBelow-lower low a bs le none.1)

  NoneBelow-put : (low a : X) (bs : List X) → earlier a low ≡ false → NoneBelow earlier order low bs
      → NoneBelow earlier order low (put_in_order version bs a)
  NoneBelow-put low a [] le none = (le, tt)
  NoneBelow-put low a (b ∷ bs) le none =
      elim (cases_Bool (earlier a b)) [
        | inl before ↦ subst (NoneBelow earlier order low) (sym (put_in_order-before a b bs before)) (le, none)
        | inr after ↦ subst (NoneBelow earlier order low) (sym (put_in_order-after a b bs after)) (
          none.0,
          NoneBelow-put low a bs le none.1,
        )
      ]

  Rises-put : (a : X) (bs : List X) → Rises earlier order bs → Rises earlier order (put_in_order version bs a)
  Rises-put a [] rises = (tt, tt)
  Rises-put a (b ∷ bs) rises =
      elim (cases_Bool (earlier a b)) [
        | inl before ↦
            let le = order.one_way a b before in
            subst (Rises earlier order) (sym (put_in_order-before a b bs before))
            ((le, NoneBelow-lower a b bs le rises.0), rises)
        | inr after ↦
            subst (Rises earlier order) (sym (put_in_order-after a b bs after))
            (NoneBelow-put b a bs after rises.0, Rises-put a bs rises.1)
      ]

  -- none of the list ties with x, which ties with an earlier one
  none_tie : (x a b : X) (cs : List X) → ties earlier x a ≡ true → earlier a b ≡ true
      → NoneBelow earlier order b cs → filter (ties earlier x) cs ≡ []
  none_tie x a b [] tie before none = refl
  none_tie x a b (c ∷ cs) tie before none =
      elim (cases_Bool (ties earlier x c)) [
        | inl with ↦
            let a_c =
            order.chain a x c (ties-parts earlier order x a tie).1 (ties-parts earlier order x c with).0 in
            absurd (false≢true (sym (order.chain a c b a_c none.0) ∙ before))
        | inr without ↦ filter-dropped (ties earlier x) c cs without ∙ none_tie x a b cs tie before none.1
      ]

  not_before_itself : (a : X) → earlier a a ≡ false
  not_before_itself = not_below_itself earlier order

  filter-put : (x a : X) (bs : List X) → Rises earlier order bs
      → filter (ties earlier x) (put_in_order version bs a) ≡ filter (ties earlier x) (bs ++ a ∷ [])
  filter-put x a [] rises = refl
  filter-put x a (b ∷ bs) rises =
      let p = ties earlier x in
      elim (cases_Bool (earlier a b)) [
        | inl before ↦
            ap (filter p) (put_in_order-before a b bs before)
            ∙ elim (cases_Bool (p a)) [
              | inl with ↦
                  let none = none_tie x a b (b ∷ bs) with before (not_before_itself b, rises.0) in
                  filter-kept p a (b ∷ bs) with ∙ ap (λ l. a ∷ l) none
                  ∙ sym (filter-append p (b ∷ bs) (a ∷ []) ∙ ap (λ l. l ++ filter p (a ∷ [])) none
                  ∙ filter-kept p a [] with)
              | inr without ↦
                  filter-dropped p a (b ∷ bs) without
                  ∙ sym (filter-append p (b ∷ bs) (a ∷ [])
                  ∙ ap (λ l. filter p (b ∷ bs) ++ l) (filter-dropped p a [] without)
                  ∙ append-nil (filter p (b ∷ bs)))
            ]
        | inr after ↦
            ap (filter p) (put_in_order-after a b bs after)
            ∙ ap (λ l. cond (p b) (b ∷ l) l) (filter-put x a bs rises.1)
      ]

  -- what putting answers in one after another keeps
  record IsPutFrom (start received sorted : List X) : Type 0 where
    rises : Rises earlier order sorted
    same : (x : X) → filter (ties earlier x) sorted ≡ filter (ties earlier x) (start ++ received)

  put_all : (start received : List X) → Rises earlier order start
      → IsPutFrom start received (fold (put_in_order version) start received)
  put_all start [] rises = record {
    rises = rises;
    same =
        λ x. ap (filter (ties earlier x)) (sym (append-nil start));
  }
  put_all start (a ∷ received) rises =
      let later = put_all (put_in_order version start a) received (Rises-put a start rises) in
      record {
        rises = later.rises;
        same = λ x.
            let p = ties earlier x in
            later.same x ∙ filter-append p (put_in_order version start a) received
            ∙ ap (λ l. l ++ filter p received) (filter-put x a start rises)
            ∙ sym (filter-append p (start ++ a ∷ []) received)
            ∙ ap (filter p) (append_assoc start (a ∷ []) received);
      }

  NoneBefore-from : (low : X) (bs : List X) → NoneBelow earlier order low bs → NoneBefore version (version low) bs
  NoneBefore-from low [] none = tt
  NoneBefore-from low (b ∷ bs) none = (none.0, NoneBefore-from low bs none.1)

  Rise-from : (bs : List X) → Rises earlier order bs → Rise version bs
  Rise-from [] rises = tt
  Rise-from (b ∷ bs) rises = (NoneBefore-from b bs rises.0, Rise-from bs rises.1)

  pub in_order-rises : (received : List X) → Rise version (in_order_by version received)
  in_order-rises received = Rise-from (in_order_by version received) (put_all [] received tt).rises

  pub in_order-from_sort : (received sorted : List X) → IsSortedByKey version int_cmp sorted
      → IsStableByKey version int_cmp received sorted → sorted ≡ in_order_by version received
  in_order-from_sort received sorted up stable =
      let put = put_all [] received tt in
      let up' = subst (λ (lt : X → X → Bool). IsSortedBy lt sorted) by_cmp-earlier up in
      let stable' =
      subst (λ (lt : X → X → Bool). IsStableBy lt received sorted) by_cmp-earlier stable in
      same_from_ties earlier order sorted (in_order_by version received)
      (Rises-from_sorted earlier order sorted up') put.rises (λ x. stable' x ∙ sym (put.same x))

  -- the same from what `sort_by_key` ensures, if each call gives the version
  pub in_order-from_sort_by_key : {F : Type 0} {g : Mut F (Bor X × Unit {0}) ℤ} {f : F}
      (received sorted : List X) → IsSortedByKeyClosure g int_cmp f sorted
      → IsStableByKeyClosure g int_cmp f received sorted
      → ((a : Bor X × Unit {0}) (r : ℤ) (f' : F) → Called g f a r f'
      → (r ≡ version a.0.now) × (f' ≡ f)) → sorted ≡ in_order_by version received
  in_order-from_sort_by_key {g = g} {f = f} received sorted up stable calls =
      let by_version = always_returns_same g (λ a r. r ≡ version a.0.now) f calls in
      in_order-from_sort received sorted (up version by_version) (stable version by_version)
