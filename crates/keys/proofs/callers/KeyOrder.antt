-- Lemmas for callers: the order of keys is total.
use Rattle.std.proofs.Common.{◌≡◌, ℕ, Bool, true, false, not, List, refl, sym, ◌∙◌, ap, subst, inl, inr, ◌⊎◌}
use Rattle.std.specs.Ordering.{nat_cmp, is_lt, is_le, ordering_reverse}
use Rattle.std.specs.Cmp.Lexicographic.{slice_cmp}
use Rattle.std.specs.FinMap.{slice_cmp-IsAntisymmetric, nat_cmp-IsAntisymmetric}
use Rattle.std.proofs.lemmas.Cmp.{nat_list_cmp_total, tied_itself}
use Rattle.std.specs.declared.cmp.Ordering.{Ordering}
use Rattle.std.specs.declared.cmp.Ordering.TheVariants.{Less, Equal, Greater}
use Rattle.keys.specs.Key.{is_before, IsBefore, IsAtMost}
use Rattle.keys.proofs.callers.Booleans.{false_unless, not_both_ways}

abbrev key_cmp : List ℕ → List ℕ → Ordering
key_cmp a b = slice_cmp nat_cmp a b

is_le-reverse : (o : Ordering) → is_le (ordering_reverse o) ≡ not (is_lt o)
is_le-reverse Less = refl
is_le-reverse Equal = refl
is_le-reverse Greater = refl

is_lt-less : (o : Ordering) → is_lt o ≡ true → o ≡ Less
is_lt-less Less h = refl
is_lt-less Equal h = cc
is_lt-less Greater h = cc

-- `a <= b` is `not (b < a)`
pub is_le-cmp : (a b : List ℕ) → is_le (slice_cmp nat_cmp a b) ≡ not (is_before b a)
is_le-cmp a b = ap is_le (nat_list_cmp_total.antisymm a b) ∙ is_le-reverse (key_cmp b a)

-- keys that compare as equal are one
pub cmp_same : (a b : List ℕ) → slice_cmp nat_cmp a b ≡ Equal → a ≡ b
cmp_same a b e = slice_cmp-IsAntisymmetric nat_cmp-IsAntisymmetric a b e

pub before_trans : (a b c : List ℕ) → IsBefore a b → IsBefore b c → IsBefore a c
before_trans a b c h k = ap is_lt (nat_list_cmp_total.trans a b c (is_lt-less _ h) (is_lt-less _ k))

before_or_same_by : (o r : Ordering) → r ≡ ordering_reverse o → not (is_lt r) ≡ true
    → (is_lt o ≡ true) ⊎ (o ≡ Equal)
before_or_same_by Less r e h = inl refl
before_or_same_by Equal r e h = inr refl
before_or_same_by Greater r e h = let k : not (is_lt Less) ≡ true = subst (λ o. not (is_lt o) ≡ true) e h in
    cc

-- a key that isn't after another comes before it or is it
pub before_or_same : (a b : List ℕ) → IsAtMost a b → IsBefore a b ⊎ (a ≡ b)
before_or_same a b h =
    elim (before_or_same_by (key_cmp a b) (key_cmp b a)
    (nat_list_cmp_total.antisymm b a) h) [ inl k ↦ inl k | inr e ↦ inr (cmp_same a b e) ]

pub at_most_before : (a b c : List ℕ) → IsAtMost a b → IsBefore b c → IsBefore a c
at_most_before a b c h k =
    elim (before_or_same a b h) [
      | inl l ↦ before_trans a b c l k
      | inr e ↦ subst (λ x. IsBefore x c)
          (sym e) k
    ]

pub before_at_most : (a b c : List ℕ) → IsBefore a b → IsAtMost b c → IsBefore a c
before_at_most a b c h k =
    elim (before_or_same b c k) [ inl l ↦ before_trans a b c h l | inr e ↦ subst (λ x. IsBefore a x) e h ]

pub not_before_itself : (a : List ℕ) → is_before a a ≡ false
not_before_itself a = ap is_lt (tied_itself nat_list_cmp_total a)

pub at_most_itself : (a : List ℕ) → IsAtMost a a
at_most_itself a = ap not (not_before_itself a)

pub not_before_if : (a b : List ℕ) → IsAtMost a b → is_before b a ≡ false
not_before_if a b h = false_unless (is_before b a) (λ k. not_both_ways _ h (ap not k))

-- one of two keys comes before the other, or isn't after it
pub before_or_at_most : (a b : List ℕ) → IsBefore a b ⊎ IsAtMost b a
before_or_at_most a b = elim (is_before a b) as (λ v. is_before a b ≡ v
    → IsBefore a b ⊎ IsAtMost b a) [ true ↦ λ e. inl e | false ↦ λ e. inr (ap not e) ] refl

before_at_most_by : (b : Bool) → b ≡ true → not b ≡ true → ⊥
before_at_most_by true h k = cc
before_at_most_by false h k = cc

pub not_both : (a b : List ℕ) → IsBefore a b → IsAtMost b a → ⊥
not_both a b h k = before_at_most_by _ h k

false_is_true : false ≡ true → ⊥
false_is_true e = cc

-- a key that comes before another isn't after it
pub before_at_most_same : (a b : List ℕ) → IsBefore a b → IsAtMost a b
before_at_most_same a b h =
    elim (before_or_at_most b a) [
      | inl k ↦ absurd
          (false_is_true (sym (not_before_itself a) ∙ before_trans a b a h k))
      | inr k ↦ k
    ]

pub at_most_trans : (a b c : List ℕ) → IsAtMost a b → IsAtMost b c → IsAtMost a c
at_most_trans a b c h k =
    elim (before_or_same a b h) [
      | inl l ↦ before_at_most_same a c (before_at_most a b c l k)
      | inr e ↦ subst
          (λ x. IsAtMost x c) (sym e) k
    ]

pub at_most_antisym : (a b : List ℕ) → IsAtMost a b → IsAtMost b a → a ≡ b
at_most_antisym a b h k = elim (before_or_same a b h) [ inl l ↦ absurd (not_both a b l k) | inr e ↦ e ]
