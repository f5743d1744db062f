-- Boundaries whose keys rise.
use Rattle.std.proofs.Common.{
  ◌≡◌,
  ◌≢◌,
  ℕ,
  Bool,
  true,
  false,
  not,
  cond,
  List,
  [],
  ◌∷◌,
  ◌++◌,
  filter,
  refl,
  sym,
  ap,
  subst,
}
use Rattle.std.specs.Prelude.{All}
use Rattle.std.proofs.lemmas.List.Elements.{All-head, All-tail, All-cons, All-nil}
use Rattle.keys.specs.Key.{is_before, IsBefore, IsAtMost}
use Rattle.keys.proofs.callers.KeyOrder.{before_trans}
use Rattle.keys.proofs.callers.Booleans.{not_both_ways}
use Rattle.boundaries.specs.Boundary.{Boundary, RiseFrom, AreInOrder}

-- no key comes before the empty one
pub not_before_empty : (key : List ℕ) → is_before key [] ≡ false
not_before_empty [] = refl
not_before_empty (x ∷ xs) = refl

pub empty_unless_after : (key : List ℕ) → is_before [] key ≡ false → key ≡ []
empty_unless_after [] h = refl
empty_unless_after (x ∷ xs) h = cc

pub not_empty_if_after : (key j : List ℕ) → IsBefore j key → key ≢ []
not_empty_if_after key j h e =
    not_both_ways _ h (subst (λ k. is_before j k ≡ false) (sym e) (not_before_empty j))

pub at_most_if : (a b : List ℕ) → is_before b a ≡ false → IsAtMost a b
at_most_if a b h = ap not h

-- each key comes after the one before it
abbrev pub Rising : List Boundary → Type 0
Rising [] = Unit {0}
Rising (b ∷ bs) = RiseFrom b.key bs

pub rising_from : (k : List ℕ) (bs : List Boundary) → RiseFrom k bs → Rising bs
rising_from k [] r = tt
rising_from k (b ∷ bs) r = r.1

pub rising_in_order : (bs : List Boundary) → AreInOrder bs → Rising bs
rising_in_order [] h = tt
rising_in_order (b ∷ bs) h = h.1

pub rise_lower : (j k : List ℕ) (bs : List Boundary) → IsBefore j k → RiseFrom k bs → RiseFrom j bs
rise_lower j k [] l r = tt
rise_lower j k (b ∷ bs) l r = (before_trans j k b.key l r.0, r.1)

-- all of them come after the key
pub rise_above : (k : List ℕ) (bs : List Boundary) → RiseFrom k bs → All (λ b. IsBefore k b.key) bs
rise_above k [] r = All-nil (λ b. IsBefore k b.key)
rise_above k (b ∷ bs) r =
    All-cons (λ c. IsBefore k c.key) b bs r.0 (rise_above k bs (rise_lower k b.key bs r.0 r.1))

rise_cond : (t : Bool) (k : List ℕ) (b : Boundary) (bs : List Boundary) → IsBefore k b.key → RiseFrom b.key bs
    → RiseFrom k (cond t (b ∷ bs) bs)
rise_cond true k b bs l r = (l, r)
rise_cond false k b bs l r = rise_lower k b.key bs l r

pub rise_filter : (p : Boundary → Bool) (k : List ℕ) (bs : List Boundary) → RiseFrom k bs
    → RiseFrom k (filter p bs)
rise_filter p k [] r = tt
rise_filter p k (b ∷ bs) r = rise_cond (p b) k b (filter p bs) r.0 (rise_filter p b.key bs r.1)

rising_cond : (t : Bool) (b : Boundary) (bs : List Boundary) → RiseFrom b.key bs → Rising (cond t (b ∷ bs) bs)
rising_cond true b bs r = r
rising_cond false b bs r = rising_from b.key bs r

pub rising_filter : (p : Boundary → Bool) (bs : List Boundary) → Rising bs → Rising (filter p bs)
rising_filter p [] r = tt
rising_filter p (b ∷ bs) r = rising_cond (p b) b (filter p bs) (rise_filter p b.key bs r)

pub rise_join : (k : List ℕ) (xs : List Boundary) (y : Boundary) (ys : List Boundary) → RiseFrom k xs
    → IsBefore k y.key → All (λ x. IsBefore x.key y.key) xs → RiseFrom y.key ys → RiseFrom k (xs ++ y ∷ ys)
rise_join k [] y ys r l a s = (l, s)
rise_join k (x ∷ xs) y ys r l a s = (
  r.0,
  rise_join x.key xs y ys r.1 (All-head (λ x. IsBefore x.key y.key) x xs a)
      (All-tail (λ x. IsBefore x.key y.key) x xs a) s,
)

-- what rises where the last part did keeps the whole rising
pub rise_swap : (k : List ℕ) (xs ys zs : List Boundary) → RiseFrom k (xs ++ ys)
    → ((j : List ℕ) → RiseFrom j ys → RiseFrom j zs) → RiseFrom k (xs ++ zs)
rise_swap k [] ys zs r f = f k r
rise_swap k (x ∷ xs) ys zs r f = (r.0, rise_swap x.key xs ys zs r.1 f)

-- the parts before a boundary come before it
pub record IsMiddle (k : List ℕ) (xs : List Boundary) (y : Boundary) (ys : List Boundary) : Type 0 where
  pub first : IsBefore k y.key
  pub before : All (λ x. IsBefore x.key y.key) xs
  pub after : RiseFrom y.key ys

pub rise_middle : (k : List ℕ) (xs : List Boundary) (y : Boundary) (ys : List Boundary)
    → RiseFrom k (xs ++ y ∷ ys) → IsMiddle k xs y ys
rise_middle k [] y ys r = record { first = r.0; before = All-nil (λ x. IsBefore x.key y.key); after = r.1 }
rise_middle k (x ∷ xs) y ys r =
    let m = rise_middle x.key xs y ys r.1 in
    record {
      first = before_trans k x.key y.key r.0 m.first;
      before =
          All-cons (λ x. IsBefore x.key y.key) x xs m.first m.before;
      after = m.after;
    }
