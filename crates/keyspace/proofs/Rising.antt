-- Rising lists of places: two with the same members are one, and what `places_from` lists.
use Rattle.std.proofs.Common.{
  ◌≡◌,
  ℕ,
  zero,
  suc,
  ◌+◌,
  ◌<◌,
  ◌≤◌,
  Bool,
  true,
  false,
  cond,
  List,
  [],
  ◌∷◌,
  length,
  refl,
  sym,
  subst,
  inl,
  inr,
  ◌⊎◌,
  arith,
  get_or,
}
use Rattle.std.specs.Prelude.{slice_get, IsSomeAnd, Contains}
use Rattle.std.specs.List.Sorted.{IsStrictlyIncreasing}
use Rattle.keys.specs.declared.range.Range.{Range}
use Rattle.keyspace.specs.Judge.{places_from}

-- x is one of xs
abbrev pub In : ℕ → List ℕ → Type 0
In x [] = ⊥
In x (y ∷ ys) = (x ≡ y) ⊎ In x ys

-- xs rise, from low on
abbrev pub Rises : ℕ → List ℕ → Type 0
Rises low [] = Unit {0}
Rises low (x ∷ xs) = (low ≤ x) × Rises (suc x) xs

pub contains_from_in : (xs : List ℕ) (x : ℕ) → In x xs → Contains xs x
contains_from_in [] x h = elim h [ ]
contains_from_in (y ∷ ys) x (inl e) = (0, omega arith, sym e)
contains_from_in (y ∷ ys) x (inr h) = let c = contains_from_in ys x h in (suc c.0, omega (arith, c.1), c.2)

pub in_from_index : (xs : List ℕ) (x k : ℕ) → k < length xs → get_or xs k x ≡ x → In x xs
in_from_index [] x k h e = absurd (omega arith)
in_from_index (y ∷ ys) x zero h e = inl (sym e)
in_from_index (y ∷ ys) x (suc k) h e = inr (in_from_index ys x k (omega arith) e)

pub in_from_contains : (xs : List ℕ) (x : ℕ) → Contains xs x → In x xs
in_from_contains xs x c = in_from_index xs x c.0 c.1 c.2

suc_plus_one : (k : ℕ) → suc k + 1 ≡ suc (k + 1)
suc_plus_one k = omega arith

rises_more : (low x : ℕ) (xs : List ℕ) → low ≤ x → IsStrictlyIncreasing (x ∷ xs) → Rises low (x ∷ xs)
rises_more low x [] h up = (h, tt)
rises_more low x (y ∷ ys) h up = (
  h,
  rises_more (suc x) y ys (omega (arith, up 0 (omega arith)))
      (λ k l. subst (λ n. get_or (y ∷ ys) k 0 < get_or (x ∷ y ∷ ys) n 0) (suc_plus_one k)
      (up (suc k) (omega arith))),
)

pub rises_from_increasing : (xs : List ℕ) → IsStrictlyIncreasing xs → Rises 0 xs
rises_from_increasing [] up = tt
rises_from_increasing (x ∷ xs) up = rises_more 0 x xs (omega arith) up

pub increasing_from_rises : (low : ℕ) (xs : List ℕ) → Rises low xs → IsStrictlyIncreasing xs
increasing_from_rises low [] h k l = absurd (omega arith)
increasing_from_rises low (x ∷ []) h k l = absurd (omega arith)
increasing_from_rises low (x ∷ y ∷ ys) h zero l = omega (arith, h.1.0)
increasing_from_rises low (x ∷ y ∷ ys) h (suc k) l =
    subst (λ n. get_or (y ∷ ys) k 0 < get_or (x ∷ y ∷ ys) n 0) (sym (suc_plus_one k))
    (increasing_from_rises (suc x) (y ∷ ys) h.1 k (omega arith))

pub in_above : (low : ℕ) (xs : List ℕ) → Rises low xs → (x : ℕ) → In x xs → low ≤ x
in_above low [] h x i = elim i [ ]
in_above low (y ∷ ys) h x (inl e) = omega (arith, h.0, e)
in_above low (y ∷ ys) h x (inr i) = omega (arith, h.0, in_above (suc y) ys h.1 x i)

head_is : (low x y : ℕ) (xs ys : List ℕ) → Rises low (x ∷ xs) → Rises low (y ∷ ys) → In x (y ∷ ys)
    → In y (x ∷ xs) → x ≡ y
head_is low x y xs ys h k (inl e) j = e
head_is low x y xs ys h k (inr i) (inl e) = sym e
head_is low x y xs ys h k (inr i) (inr j) =
    absurd (omega (arith, in_above (suc y) ys k.1 x i, in_above (suc x) xs h.1 y j))

tail_in : (x k : ℕ) (xs ys : List ℕ) → Rises (suc x) xs → In k xs → In k (x ∷ ys) → In k ys
tail_in x k xs ys h i (inl e) = absurd (omega (arith, in_above (suc x) xs h k i, e))
tail_in x k xs ys h i (inr j) = j

-- rising lists with the same members are one
pub same_rising : (low : ℕ) (xs ys : List ℕ) → Rises low xs → Rises low ys → ((k : ℕ) → In k xs → In k ys)
    → ((k : ℕ) → In k ys → In k xs) → xs ≡ ys
same_rising low [] [] h k f g = refl
same_rising low [] (y ∷ ys) h k f g = elim (g y (inl refl)) [ ]
same_rising low (x ∷ xs) [] h k f g = elim (f x (inl refl)) [ ]
same_rising low (x ∷ xs) (y ∷ ys) h k f g =
    let e = head_is low x y xs ys h k (f x (inl refl)) (g y (inl refl)) in
    let rest : xs ≡ ys = same_rising (suc x) xs ys h.1 (subst (λ z. Rises (suc z) ys) (sym e) k.1)
    (λ z i. tail_in x z xs ys h.1 i (subst (λ w. In z (w ∷ ys)) (sym e) (f z (inr i))))
    (λ z i. tail_in y z ys xs k.1 i (subst (λ w. In z (w ∷ xs)) e (g z (inr i)))) in
    cc

-- range j of these passes the test
abbrev pub PassesAt : (Range → Bool) → List Range → ℕ → Type 0
PassesAt test ranges j = IsSomeAnd (slice_get ranges j) (λ range. test range ≡ true)

rises_down : (low high : ℕ) (xs : List ℕ) → low ≤ high → Rises high xs → Rises low xs
rises_down low high [] h k = tt
rises_down low high (x ∷ xs) h k = (omega (arith, k.0), k.1)

pub rises_places_from : (i : ℕ) (test : Range → Bool) (ranges : List Range)
    → Rises i (places_from i test ranges)
rises_places_from i test [] = tt
rises_places_from i test (r ∷ rs) =
    let more : Rises (suc i) (places_from (i + 1) test rs) =
    subst (λ n. Rises n (places_from (i + 1) test rs)) (omega arith)
    (rises_places_from (i + 1) test rs) in
    elim (test r) as (λ b. Rises i (cond b (i ∷ places_from (i + 1) test rs) (places_from (i + 1) test rs))) [
      | true ↦ (omega arith, more)
      | false ↦ rises_down i (suc i) (places_from (i + 1) test rs) (omega arith) more
    ]

not_first : (i j : ℕ) (xs : List ℕ) → In (i + suc j) (i ∷ xs) → In (i + suc j) xs
not_first i j xs (inl e) = absurd (omega arith)
not_first i j xs (inr k) = k

-- the members of `places_from i` are the places, counted from i on, of the ranges that pass
pub in_places_from : (i : ℕ) (test : Range → Bool) (ranges : List Range) (j : ℕ) → PassesAt test ranges j
    → In (i + j) (places_from i test ranges)
in_places_from i test [] j h = elim h [ ]
in_places_from i test (r ∷ rs) zero h = rw h (inl (omega arith))
in_places_from i test (r ∷ rs) (suc j) h =
    let more : In (i + suc j) (places_from (i + 1) test rs) =
    subst (λ n. In n (places_from (i + 1) test rs)) (omega arith) (in_places_from (i + 1) test rs j h) in
    elim (test r) as
    (λ b. In (i + suc j) (cond b (i ∷ places_from (i + 1) test rs) (places_from (i + 1) test rs)))
    [ true ↦ inr more | false ↦ more ]

pub passes_from_in : (i : ℕ) (test : Range → Bool) (ranges : List Range) (j : ℕ)
    → In (i + j) (places_from i test ranges) → PassesAt test ranges j
passes_from_in i test [] j h = elim h [ ]
passes_from_in i test (r ∷ rs) zero h =
    elim (test r) as (λ b. test r ≡ b
    → In (i + 0) (cond b (i ∷ places_from (i + 1) test rs) (places_from (i + 1) test rs))
    → test r ≡ true) [
      | true ↦ λ e k. e
      | false ↦ λ e k. absurd
          (omega (
            arith,
            in_above (i + 1) (places_from (i + 1) test rs) (rises_places_from (i + 1) test rs) (i + 0) k,
          ))
    ] refl h
passes_from_in i test (r ∷ rs) (suc j) h =
    let down =
    λ (k : In (i + suc j) (places_from (i + 1) test rs)). passes_from_in (i + 1) test rs j
    (subst (λ n. In n (places_from (i + 1) test rs)) (omega arith) k) in
    elim (test r) as
    (λ b. In (i + suc j) (cond b (i ∷ places_from (i + 1) test rs) (places_from (i + 1) test rs))
    → PassesAt test rs j) [
      | true ↦ λ k. down (not_first i j (places_from (i + 1) test rs) k)
      | false ↦ λ k. down k
    ] h
