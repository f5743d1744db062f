-- Items of one version, in lists that are in the order of their versions.
use Rattle.std.specs.Prelude.{◌≡◌, ℤ, int_lt, true, false, List, [], ◌∷◌}
use Rattle.std.proofs.Common.{refl, sym, ap, ◌∙◌, inl, inr, arith}
use Rattle.std.specs.Ordering.{int_eq}
use Rattle.std.proofs.lemmas.Bool.{cases_Bool}
use Rattle.std.proofs.lemmas.Bool.Decides.{Decides-int_eq}
use Rattle.std.proofs.lemmas.Int.{ints}
use Rattle.keyspace.specs.storage.InOrder.{NoneBefore}
use Rattle.keyspace.proofs.OneOrder.{filter-kept, filter-dropped}
use Rattle.replay_shards.specs.Merging.{at_version}

-- equal numbers pass the test, and what passes is equal
pub same_if : (a b : ℤ) → int_eq a b ≡ true → a ≡ b
same_if a b h = (Decides-int_eq a b).0 h

pub is_same : (a : ℤ) → int_eq a a ≡ true
is_same a = (Decides-int_eq a a).1 refl

pub not_both_ways : (a b : ℤ) → int_lt a b ≡ true → int_lt b a ≡ false
not_both_ways a b h = grind (arith, ints)

-- a version isn't one that is before it
pub not_same_if_before : (v least w : ℤ) → int_lt v least ≡ true → int_lt w least ≡ false → int_eq w v ≡ false
not_same_if_before v least w before not_before =
    elim (cases_Bool (int_eq w v)) [
      | inl same ↦ let is = same_if w v same in
          let clash : int_lt w least ≡ true = ap (λ u. int_lt u least) is ∙ before in
          absurd (let no : true ≡ false = sym clash ∙ not_before in cc)
      | inr differs ↦ differs
    ]

pub irreflexive : (a : ℤ) → int_lt a a ≡ false
irreflexive a = grind (arith, ints)

-- what isn't before a version isn't before a lesser one
pub not_before_lower : (a v w : ℤ) → int_lt v w ≡ true → int_lt a w ≡ false → int_lt a v ≡ false
not_before_lower a v w below not_before = grind (arith, ints)

-- of two versions, if none is before the other, they are the same
same_both : (a b : ℤ) → int_lt a b ≡ false → int_lt b a ≡ false → a ≡ b
same_both a b h k = grind (arith, ints)

pub not_same_if_after : (v w : ℤ) → int_lt w v ≡ true → int_eq w v ≡ false
not_same_if_after v w after =
    elim (cases_Bool (int_eq w v)) [
      | inl same ↦
          let clash : int_lt v v ≡ true = ap (λ u. int_lt u v) (sym (same_if w v same)) ∙ after in
          absurd (let no : true ≡ false = sym clash ∙ irreflexive v in cc)
      | inr differs ↦ differs
    ]

-- what is neither before nor the same is after
pub after_if : (v w : ℤ) → int_lt w v ≡ false → int_eq w v ≡ false → int_lt v w ≡ true
after_if v w not_before differs =
    elim (cases_Bool (int_lt v w)) [
      | inl after ↦ after
      | inr not_after ↦
          let same : int_eq w v ≡ true = ap (λ u. int_eq w u) (sym (same_both w v not_before not_after)) ∙ is_same w in
          absurd (let no : true ≡ false = sym same ∙ differs in cc)
    ]

module _ {X : Type 0} (version_of : X → ℤ) where
  -- if none has a lesser version than one, none has a version below that one
  pub none_at : (v least : ℤ) (xs : List X) → int_lt v least ≡ true → NoneBefore version_of least xs
      → at_version version_of v xs ≡ []
  none_at v least [] before none = refl
  none_at v least (x ∷ xs) before none =
      filter-dropped (λ item. int_eq (version_of item) v) x xs (not_same_if_before v least (version_of x) before none.0)
      ∙ none_at v least xs before none.1

  pub at_kept : (v : ℤ) (x : X) (xs : List X) → int_eq (version_of x) v ≡ true
      → at_version version_of v (x ∷ xs) ≡ x ∷ at_version version_of v xs
  at_kept v x xs h = filter-kept (λ item. int_eq (version_of item) v) x xs h

  pub at_dropped : (v : ℤ) (x : X) (xs : List X) → int_eq (version_of x) v ≡ false
      → at_version version_of v (x ∷ xs) ≡ at_version version_of v xs
  at_dropped v x xs h = filter-dropped (λ item. int_eq (version_of item) v) x xs h
