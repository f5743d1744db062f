-- What two filters leave of a list.
use Rattle.std.proofs.Common.{
  ◌≡◌,
  suc,
  ◌≤◌,
  Bool,
  true,
  false,
  not,
  ◌&&◌,
  ◌||◌,
  cond,
  List,
  [],
  ◌∷◌,
  length,
  map,
  filter,
  refl,
  ap,
  arith,
}
use Rattle.std.specs.List.{list_any}

-- if each element that passes p passes q too, filtering by q first makes no difference
pub filter_same : {X : Type 0} (p q : X → Bool) (xs : List X) → list_any (λ x. p x && not (q x)) xs ≡ false
    → filter p xs ≡ filter p (filter q xs)
filter_same p q [] h = refl
filter_same p q (x ∷ xs) h =
    elim (p x) as (λ b. p x ≡ b → ((b && not (q x)) || list_any (λ x. p x && not (q x)) xs) ≡ false
    → cond b (x ∷ filter p xs) (filter p xs) ≡ filter p (cond (q x) (x ∷ filter q xs) (filter q xs))) [
      | true ↦ λ e. elim (q x) as (λ c. (not c || list_any (λ x. p x && not (q x)) xs) ≡ false
          → x ∷ filter p xs ≡ filter p (cond c (x ∷ filter q xs) (filter q xs))) [
            | true ↦ λ k. rw e (ap (λ ys. x ∷ ys) (filter_same p q xs k))
            | false ↦ λ k. cc
          ]
      | false ↦ λ e. elim (q x) as (λ c. list_any (λ x. p x && not (q x)) xs ≡ false
          → filter p xs ≡ filter p (cond c (x ∷ filter q xs) (filter q xs))) [
            | true ↦ λ k. rw e (filter_same p q xs k)
            | false ↦ λ k. filter_same p q xs k
          ]
    ] refl h

-- filtering by q first leaves no more of those that pass p
pub filter_fewer : {X : Type 0} (p q : X → Bool) (xs : List X)
    → length (filter p (filter q xs)) ≤ length (filter p xs)
filter_fewer p q [] = omega arith
filter_fewer p q (x ∷ xs) =
    let more = filter_fewer p q xs in
    elim (q x) as (λ c. length (filter p (cond c (x ∷ filter q xs) (filter q xs)))
    ≤ length (cond (p x) (x ∷ filter p xs) (filter p xs))) [
      | true ↦ elim (p x) as (λ b. length (cond b (x ∷ filter p (filter q xs)) (filter p (filter q xs)))
          ≤ length (cond b (x ∷ filter p xs) (filter p xs))) [ true ↦ omega (arith, more) | false ↦ more ]
      | false ↦ elim (p x) as (λ b. length (filter p (filter q xs))
          ≤ length (cond b (x ∷ filter p xs) (filter p xs))) [ true ↦ omega (arith, more) | false ↦ more ]
    ]

-- if filtering by q first leaves as many of those that pass p, each that passes p passes q too
pub none_lost : {X : Type 0} (p q : X → Bool) (xs : List X)
    → length (filter p xs) ≤ length (filter p (filter q xs)) → list_any (λ x. p x && not (q x)) xs ≡ false
none_lost p q [] h = refl
none_lost p q (x ∷ xs) h =
    let fewer = filter_fewer p q xs in
    elim (p x) as (λ b. p x ≡ b
    → length (cond b (x ∷ filter p xs) (filter p xs))
    ≤ length (filter p (cond (q x) (x ∷ filter q xs) (filter q xs)))
    → ((b && not (q x)) || list_any (λ x. p x && not (q x)) xs) ≡ false) [
      | true ↦ λ e. elim (q x) as (λ c. suc (length (filter p xs))
          ≤ length (filter p (cond c (x ∷ filter q xs) (filter q xs)))
          → (not c || list_any (λ x. p x && not (q x)) xs) ≡ false) [
            | true ↦ λ k. none_lost p q xs (let l = rw e at k in omega (arith, l))
            | false ↦ λ k. absurd (omega (arith, k, fewer))
          ]
      | false ↦ λ e. elim (q x) as (λ c. length (filter p xs)
          ≤ length (filter p (cond c (x ∷ filter q xs) (filter q xs)))
          → list_any (λ x. p x && not (q x)) xs ≡ false) [
            | true ↦ λ k. none_lost p q xs (rw e at k)
            | false ↦ λ k. none_lost p q xs k
          ]
    ] refl h

-- if none passes, none is left
pub filter_none : {X : Type 0} (p : X → Bool) (xs : List X) → list_any p xs ≡ false → filter p xs ≡ []
filter_none p [] h = refl
filter_none p (x ∷ xs) h =
    elim (p x) as (λ b. (b || list_any p xs) ≡ false → cond b (x ∷ filter p xs) (filter p xs) ≡ []) [
      | true ↦ λ k. cc
      | false ↦ λ k. filter_none p xs k
    ] h

-- and if none is left, none passes
pub none_passes : {X : Type 0} (p : X → Bool) (xs : List X) → length (filter p xs) ≡ 0 → list_any p xs ≡ false
none_passes p [] h = refl
none_passes p (x ∷ xs) h =
    elim (p x) as (λ b. length (cond b (x ∷ filter p xs) (filter p xs)) ≡ 0 → (b || list_any p xs) ≡ false) [
      | true ↦ λ k. absurd (omega (arith, k))
      | false ↦ λ k. none_passes p xs k
    ] h

-- a test of what a list is mapped to
pub list_any-map : {X Y : Type 0} (p : Y → Bool) (f : X → Y) (xs : List X)
    → list_any p (map f xs) ≡ list_any (λ x. p (f x)) xs
list_any-map p f [] = refl
list_any-map p f (x ∷ xs) = ap (λ b. p (f x) || b) (list_any-map p f xs)
