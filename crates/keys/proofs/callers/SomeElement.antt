-- Lemmas for callers: what holds of some element of a list, for lists in parts.
use Rattle.std.proofs.Common.{
  ◌≡◌,
  ℕ,
  zero,
  suc,
  ◌<◌,
  List,
  [],
  ◌∷◌,
  ◌++◌,
  length,
  get_or,
  map,
  refl,
  sym,
  subst,
  inl,
  inr,
  ◌⊎◌,
  arith,
}
use Rattle.std.specs.Prelude.{Any}

pub Any-weaker : {X : Type 0} (P Q : X → Type 0) → ((x : X) → P x → Q x) → (xs : List X) → Any P xs → Any Q xs
Any-weaker P Q f xs a = (a.0, a.1, a.2, a.3, f a.1 a.4)

pub Any-first : {X : Type 0} (P : X → Type 0) (x : X) (xs : List X) → P x → Any P (x ∷ xs)
Any-first P x xs p = (0, x, omega arith, refl, p)

pub Any-later : {X : Type 0} (P : X → Type 0) (x : X) (xs : List X) → Any P xs → Any P (x ∷ xs)
Any-later P x xs a = (suc a.0, a.1, (let lt : a.0 < length xs = a.2 in omega arith), a.3, a.4)

pub Any-none : {X : Type 0} (P : X → Type 0) → Any P [] → ⊥
Any-none P a = let lt : a.0 < 0 = a.2 in omega arith

-- it is the first or one of the others
pub Any-cases : {X : Type 0} (P : X → Type 0) (x : X) (xs : List X) → Any P (x ∷ xs) → P x ⊎ Any P xs
Any-cases {X} P x xs a = cases a.0 a.1 a.2 a.3 a.4
  where
    cases : (k : ℕ) (y : X) → k < length (x ∷ xs) → get_or (x ∷ xs) k y ≡ y → P y → P x ⊎ Any P xs
    cases zero y lt is p = inl (subst P (sym is) p)
    cases (suc k) y lt is p = inr (k, y, omega arith, is, p)

-- it is in the one part or in the other
pub Any-parts : {X : Type 0} (P : X → Type 0) (xs ys : List X) → Any P (xs ++ ys) → Any P xs ⊎ Any P ys
Any-parts P [] ys a = inr a
Any-parts P (x ∷ xs) ys a =
    elim (Any-cases P x (xs ++ ys) a) [
      | inl p ↦ inl (Any-first P x xs p)
      | inr b ↦ elim (Any-parts P xs ys b) [ inl c ↦ inl (Any-later P x xs c) | inr c ↦ inr c ]
    ]

pub Any-left : {X : Type 0} (P : X → Type 0) (xs ys : List X) → Any P xs → Any P (xs ++ ys)
Any-left P [] ys a = absurd (Any-none P a)
Any-left P (x ∷ xs) ys a =
    elim (Any-cases P x xs a) [
      | inl p ↦ Any-first P x (xs ++ ys) p
      | inr b ↦ Any-later P x (xs ++ ys)
          (Any-left P xs ys b)
    ]

pub Any-right : {X : Type 0} (P : X → Type 0) (xs ys : List X) → Any P ys → Any P (xs ++ ys)
Any-right P [] ys a = a
Any-right P (x ∷ xs) ys a = Any-later P x (xs ++ ys) (Any-right P xs ys a)

-- one more at the end
pub Any-longer : {X : Type 0} (P : X → Type 0) (xs : List X) (y : X) → Any P xs → Any P (xs ++ y ∷ [])
Any-longer P xs y a = Any-left P xs (y ∷ []) a

pub Any-push_cases : {X : Type 0} (P : X → Type 0) (xs : List X) (y : X) → Any P (xs ++ y ∷ [])
    → Any P xs ⊎ P y
Any-push_cases P xs y a =
    elim (Any-parts P xs (y ∷ []) a) [
      | inl b ↦ inl b
      | inr b ↦ elim (Any-cases P y [] b) [ inl p ↦ inr p | inr none ↦ absurd (Any-none P none) ]
    ]

-- of the values of a function, and of what it is taken of
pub Any-map : {X Y : Type 0} (f : X → Y) (P : Y → Type 0) (xs : List X) → Any (λ x. P (f x)) xs
    → Any P (map f xs)
Any-map f P [] a = absurd (Any-none (λ x. P (f x)) a)
Any-map f P (x ∷ xs) a =
    elim (Any-cases (λ x. P (f x)) x xs a) [
      | inl p ↦ Any-first P (f x) (map f xs) p
      | inr b ↦ Any-later P
          (f x) (map f xs) (Any-map f P xs b)
    ]

pub Any-unmap : {X Y : Type 0} (f : X → Y) (P : Y → Type 0) (xs : List X) → Any P (map f xs)
    → Any (λ x. P (f x)) xs
Any-unmap f P [] a = absurd (Any-none P a)
Any-unmap f P (x ∷ xs) a =
    elim (Any-cases P (f x) (map f xs) a) [
      | inl p ↦ Any-first (λ x. P (f x)) x xs p
      | inr b ↦ Any-later
          (λ x. P (f x)) x xs (Any-unmap f P xs b)
    ]
