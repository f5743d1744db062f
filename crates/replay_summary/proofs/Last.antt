-- Of versions that aren't above one, that one is among them exactly if it is the greatest.
use Rattle.std.specs.Prelude.{◌≡◌, ℤ, ◌≤ℤ◌, ◌<ℤ◌, int_lt, Bool, true, false, cond, ◌||◌, List, [], ◌∷◌, map, fold, Option, None, Some, ⊤}
use Rattle.std.specs.Cmp.{signed_Decides}
use Rattle.std.specs.Int.Signed.{clash_ℤ}
use Rattle.std.specs.List.{list_any}
use Rattle.std.specs.Ordering.{int_eq}
use Rattle.std.proofs.Common.{refl, sym, ap, subst, ◌∙◌, inl, inr, arith}
use Rattle.std.proofs.lemmas.Bool.{cases_Bool}
use Rattle.std.proofs.lemmas.Int.{ints}
use Rattle.replay_summary.specs.declared.versions.Versions.{Versions}
use Rattle.replay_summary.specs.Adding.{is_last}
use Rattle.replay_summary.specs.Summary.{only, span, span_of_both}

-- none of the items has a version above this one
abbrev pub NoneAbove : {X : Type 0} → (X → ℤ) → ℤ → List X → Type 0
NoneAbove version greatest [] = ⊤
NoneAbove version greatest (x ∷ xs) = (version x ≤ℤ greatest) × NoneAbove version greatest xs

-- the versions aren't above this one
abbrev Below : ℤ → Option Versions → Type 0
Below greatest None = ⊤
Below greatest (Some versions) = versions.last ≤ℤ greatest

other_below : (v x : ℤ) → x <ℤ v → int_eq v x ≡ false
other_below v x below =
    elim (cases_Bool (int_eq v x)) [
      | inl holds ↦ clash_ℤ (subst (λ (z : ℤ). x <ℤ z) ((signed_Decides v x).0 holds) below) (omega (arith, ints))
      | inr fails ↦ fails
    ]

or_false : (b : Bool) → b ≡ (b || false)
or_false true = refl
or_false false = refl

equal_if_neither : (v x : ℤ) → v ≤ℤ x → x ≤ℤ v → v ≡ x
equal_if_neither v x above below = omega (arith, ints)

same_as_greater : (v x y : ℤ) → y ≤ℤ x → x ≤ℤ v → int_eq v x ≡ (int_eq v y || int_eq v x)
same_as_greater v x y above below =
    elim (cases_Bool (int_eq v y)) [
      | inl holds ↦
          let low : v ≤ℤ x = subst (λ (z : ℤ). z ≤ℤ x) (sym ((signed_Decides v y).0 holds)) above in
          (signed_Decides v x).1 (equal_if_neither v x low below) ∙ sym (ap (λ (b : Bool). b || int_eq v x) holds)
      | inr fails ↦ sym (ap (λ (b : Bool). b || int_eq v x) fails)
    ]

is_last-spanning : (v x : ℤ) (before : Option Versions) → Below v before → x ≤ℤ v
    → is_last v (span_of_both before (only x)) ≡ (is_last v before || int_eq v x)
is_last-spanning v x None below within = refl
is_last-spanning v x (Some versions) below within = by (int_lt x versions.last) refl
  where
    by : (t : Bool) → int_lt x versions.last ≡ t
        → int_eq v (cond t versions.last x) ≡ (int_eq v versions.last || int_eq v x)
    by true less = or_false (int_eq v versions.last)
        ∙ ap (λ (b : Bool). int_eq v versions.last || b) (sym (other_below v x (omega (arith, ints))))
    by false not_less = same_as_greater v x versions.last (omega (arith, ints)) within

Below-spanning : (v x : ℤ) (before : Option Versions) → Below v before → x ≤ℤ v → Below v (span_of_both before (only x))
Below-spanning v x None below within = within
Below-spanning v x (Some versions) below within = by (int_lt x versions.last)
  where
    by : (t : Bool) → cond t versions.last x ≤ℤ v
    by true = below
    by false = within

or_assoc : (a b c : Bool) → ((a || b) || c) ≡ (a || (b || c))
or_assoc true b c = refl
or_assoc false b c = refl

last_from : (v : ℤ) (before : Option Versions) (xs : List ℤ) → Below v before → NoneAbove (λ x. x) v xs
    → is_last v (fold span_of_both before (map only xs)) ≡ (is_last v before || list_any (int_eq v) xs)
last_from v before [] below none = or_false (is_last v before)
last_from v before (x ∷ xs) below none =
    last_from v (span_of_both before (only x)) xs (Below-spanning v x before below none.0) none.1
    ∙ ap (λ (b : Bool). b || list_any (int_eq v) xs) (is_last-spanning v x before below none.0)
    ∙ or_assoc (is_last v before) (int_eq v x) (list_any (int_eq v) xs)

pub last_seen : (v : ℤ) (xs : List ℤ) → NoneAbove (λ x. x) v xs → is_last v (span (map only xs)) ≡ list_any (int_eq v) xs
last_seen v xs none = last_from v None xs tt none
