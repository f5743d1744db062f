-- Lemmas for callers: how often a slot occurs in a list. Slots are distinct if each occurs at most once.
use Rattle.std.proofs.Common.{◌≡◌, ◌≢◌, ◌⊎◌, inl, inr, ℕ, zero, suc, ◌+◌, ◌≤◌, false, cond, List, [], ◌∷◌, ◌++◌, refl, sym, ap, arith, nat_eq}
use Rattle.std.specs.List.{Contains, IsDistinct, AllByRecursion}
use Rattle.std.proofs.lemmas.Bool.{eq-eqb, ne_eqb, eqb-false}
use Rattle.std.proofs.lemmas.Bool.Decides.{eqb_tells}

abbrev pub once : ℕ → ℕ → ℕ
once s x = cond (nat_eq x s) 1 0

abbrev pub times : ℕ → List ℕ → ℕ
times s [] = 0
times s (x ∷ xs) = once s x + times s xs

pub once_same : (s : ℕ) → once s s ≡ 1
once_same s = ap (λ b. cond b 1 0) (eq-eqb s s refl)

pub once_other : (s x : ℕ) → x ≢ s → once s x ≡ 0
once_other s x other = ap (λ b. cond b 1 0) (ne_eqb x s other)

pub once_cases : (s x : ℕ) → ((x ≡ s) × (once s x ≡ 1)) ⊎ ((x ≢ s) × (once s x ≡ 0))
once_cases s x = elim (eqb_tells x s) [
  | inl same ↦ inl (same.1, ap (λ b. cond b 1 0) same.0)
  | inr other ↦ inr (other.1, ap (λ b. cond b 1 0) other.0)
]

pub times-append : (s : ℕ) (xs ys : List ℕ) → times s (xs ++ ys) ≡ times s xs + times s ys
times-append s [] ys = omega arith
times-append s (x ∷ xs) ys = omega (arith, times-append s xs ys)

pub none_or_some : (n : ℕ) → (n ≡ 0) ⊎ (1 ≤ n)
none_or_some zero = inl refl
none_or_some (suc n) = inr (omega arith)

pub times_if_contains : (s : ℕ) (xs : List ℕ) → Contains xs s → 1 ≤ times s xs
times_if_contains s [] h = absurd (omega (arith, h.1))
times_if_contains s (x ∷ xs) (zero, within, is) = rw is (omega (arith, once_same s))
times_if_contains s (x ∷ xs) (suc k, within, is) = omega (arith, times_if_contains s xs (k, omega arith, is))

pub contains_if_times : (s : ℕ) (xs : List ℕ) → 1 ≤ times s xs → Contains xs s
contains_if_times s [] h = absurd (omega arith)
contains_if_times s (x ∷ xs) h = elim (once_cases s x) [
  | inl same ↦ (zero, omega arith, same.0)
  | inr other ↦ let there = contains_if_times s xs (omega (arith, other.1)) in (suc there.0, omega (arith, there.1), there.2)
]

pub times_unless_contains : (s : ℕ) (xs : List ℕ) → ¬ Contains xs s → times s xs ≡ 0
times_unless_contains s xs without = grind (arith, none_or_some (times s xs), contains_if_times s xs)

-- an element that no other is equal to
none_later : (x : ℕ) (xs : List ℕ) → AllByRecursion (λ y. nat_eq x y ≡ false) xs → times x xs ≡ 0
none_later x [] h = refl
none_later x (y ∷ ys) h = omega (arith, once_other x y (λ same. eqb-false x y h.0 (sym same)), none_later x ys h.1)

differs_later : (x : ℕ) (xs : List ℕ) → times x xs ≡ 0 → AllByRecursion (λ y. nat_eq x y ≡ false) xs
differs_later x [] h = tt
differs_later x (y ∷ ys) h =
    (ne_eqb x y (λ same. omega (arith, ap (once x) same, once_same x)), differs_later x ys (omega arith))

pub once_if_distinct : (xs : List ℕ) → IsDistinct nat_eq xs → (s : ℕ) → times s xs ≤ 1
unfolding IsDistinct
once_if_distinct [] h s = omega arith
once_if_distinct (x ∷ xs) h s = grind (arith, once_cases s x, none_later x xs h.0, once_if_distinct xs h.1 s)

pub distinct_if_once : (xs : List ℕ) → ((s : ℕ) → times s xs ≤ 1) → IsDistinct nat_eq xs
unfolding IsDistinct
distinct_if_once [] h = tt
distinct_if_once (x ∷ xs) h =
    (differs_later x xs (omega (arith, h x, once_same x)), distinct_if_once xs (λ s. omega (arith, h s)))
