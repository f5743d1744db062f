-- The ten sizes, and which of them a key takes.
use Rattle.std.proofs.Common.{
  ◌≡◌,
  ◌≢◌,
  ◌⊎◌,
  ◌==◌,
  inl,
  inr,
  ℕ,
  suc,
  ◌+◌,
  ◌<◌,
  ◌≤◌,
  Bool,
  true,
  false,
  nat_lt,
  List,
  [],
  ◌∷◌,
  length,
  take,
  set,
  get_or,
  count_by,
  slice_index,
  sym,
  cond,
  refl,
  ap,
  ◌∙◌,
  add_comm,
  add-one,
  zero-add,
  lit≤,
  arith,
}
use borrow.Author.Tests.{ltb-true}
use Rattle.std.proofs.lemmas.Bool.Decides.{nat_tests}
use Rattle.std.proofs.lemmas.List.Sums.{sum_by-cons, count_by_more_yes, count_by_more_no, count_by-le-length}
use Rattle.std.proofs.lemmas.List.{get_or-set_same, get_or-set_other, length-take-le}
use Rattle.arena.specs.Arena.{sizes, size_of, wanted_of}
use Rattle.arena.proofs.Slots.{same_or_other}

-- each isn't below the one before
abbrev Rise : ℕ → List ℕ → Type 0
Rise x [] = Unit {0}
Rise x (y ∷ ys) = (x ≤ y) × Rise y ys

abbrev last_of : ℕ → List ℕ → ℕ
last_of x [] = x
last_of x (y ∷ ys) = last_of y ys

abbrev too_short : ℕ → List ℕ → ℕ
too_short n xs = count_by (λ x. nat_lt x n) xs

count : (n x : ℕ) (ys : List ℕ) → too_short n (x ∷ ys) ≡ cond (nat_lt x n) 1 0 + too_short n ys
count n x ys = sum_by-cons (λ y. cond (nat_lt y n) 1 0) x ys

none_too_short : (n x : ℕ) (ys : List ℕ) → n ≤ x → Rise x ys → too_short n ys ≡ 0
none_too_short n x [] fits rise = refl
none_too_short n x (y ∷ ys) fits rise =
    let here : nat_lt y n ≡ false = not_less y n (omega arith) in
    count n y ys ∙ ap (λ b. cond b 1 0 + too_short n ys) here ∙ zero-add (too_short n ys)
    ∙ none_too_short n y ys (omega arith) rise.1
  where
    not_less : (y n : ℕ) → n ≤ y → nat_lt y n ≡ false
    not_less y n le = grind (arith, nat_tests)

at_first : (n x : ℕ) (ys : List ℕ) → nat_lt x n ≡ false → Rise x ys
    → (too_short n (x ∷ ys) < suc (length ys)) × (n ≤ slice_index (x ∷ ys) (too_short n (x ∷ ys)))
at_first n x ys is rise =
    let fits = not_above x n is in
    let none = count n x ys ∙ ap (λ b. cond b 1 0 + too_short n ys) is ∙ zero-add (too_short n ys)
    ∙ none_too_short n x ys fits rise in
    rw none (omega arith, fits)
  where
    not_above : (x n : ℕ) → nat_lt x n ≡ false → n ≤ x
    not_above x n is = grind (arith, nat_tests)

later : (n x k j m : ℕ) (ys : List ℕ) → k ≡ 1 + j → (j < m) × (n ≤ slice_index ys j)
    → (k < suc m) × (n ≤ slice_index (x ∷ ys) k)
later n x k j m ys is found = rw (is, add_comm 1 j, add-one) (omega (arith, found.0), found.1)

-- as many come before the first that isn't too short as are too short
first_that_fits : (n x : ℕ) (ys : List ℕ) → Rise x ys → n ≤ last_of x ys
    → (too_short n (x ∷ ys) < suc (length ys)) × (n ≤ slice_index (x ∷ ys) (too_short n (x ∷ ys)))
first_that_fits n x [] rise fits = by_test (nat_lt x n) refl
  where
    by_test : (b : Bool) → nat_lt x n ≡ b
        → (too_short n (x ∷ []) < 1) × (n ≤ slice_index (x ∷ []) (too_short n (x ∷ [])))
    by_test true is = absurd (omega (arith, ltb-true x n is))
    by_test false is = at_first n x [] is rise
first_that_fits n x (y ∷ ys) rise fits = by_test (nat_lt x n) refl (first_that_fits n y ys rise.1 fits)
  where
    by_test : (b : Bool) → nat_lt x n ≡ b
        → (too_short n (y ∷ ys) < suc (length ys)) × (n ≤ slice_index (y ∷ ys) (too_short n (y ∷ ys)))
        → (too_short n (x ∷ y ∷ ys) < suc (suc (length ys)))
        × (n ≤ slice_index (x ∷ y ∷ ys) (too_short n (x ∷ y ∷ ys)))
    by_test true is found =
        later n x _ _ (suc (length ys)) (y ∷ ys) (count n x (y ∷ ys)
        ∙ ap (λ b. cond b 1 0 + too_short n (y ∷ ys)) is) found
    by_test false is found = at_first n x (y ∷ ys) is rise

pub size_fits : (n : ℕ) → n ≤ 16384 → (size_of n < 10) × (n ≤ slice_index sizes (size_of n))
size_fits n fits =
    let rest : List ℕ = 64 ∷ 128 ∷ 256 ∷ 512 ∷ 1024 ∷ 2048 ∷ 4096 ∷ 8192 ∷ 16384 ∷ [] in
    first_that_fits n 32 rest (
      lit≤ tt,
      (lit≤ tt, (lit≤ tt, (lit≤ tt, (lit≤ tt, (lit≤ tt, (lit≤ tt, (lit≤ tt, (lit≤ tt, tt)))))))),
    ) fits

-- one more length is counted under its own size
pub counted_more : (counts lengths : List ℕ) (i own s : ℕ) → length counts ≡ 10 → own < 10
    → own ≡ size_of (get_or lengths i 0) → i < length lengths
    → slice_index counts s ≡ wanted_of (take i lengths) s
    → slice_index (set counts own (slice_index counts own + 1)) s ≡ wanted_of (take (i + 1) lengths) s
counted_more counts lengths i own s ten below is within so_far = by_case (same_or_other s own)
  where
    test : (a b : ℕ) → a ≡ b → (a == b) ≡ true
    test a b e = grind (arith, nat_tests)

    test_not : (a b : ℕ) → a ≢ b → (a == b) ≡ false
    test_not a b other = grind (arith, nat_tests)

    by_case : (s ≡ own) ⊎ (s ≢ own)
        → slice_index (set counts own (slice_index counts own + 1)) s ≡ wanted_of (take (i + 1) lengths) s
    by_case (inl same) =
        ap (slice_index (set counts own (slice_index counts own + 1))) same
        ∙ get_or-set_same counts own (slice_index counts own + 1) 0 (omega arith)
        ∙ ap (λ n. slice_index counts n + 1) (sym same) ∙ ap (λ n. n + 1) so_far
        ∙ sym (count_by_more_yes (λ n. size_of n == s) lengths i 0 within (test _ _ (sym is ∙ sym same)))
    by_case (inr other) =
        get_or-set_other counts own s (slice_index counts own + 1) 0 other ∙ so_far
        ∙ sym (count_by_more_no (λ n. size_of n == s) lengths i 0 within
        (test_not _ _ (λ e. other (sym e ∙ sym is))))

pub wanted_of-bound : (lengths : List ℕ) (i s : ℕ) → i ≤ length lengths → wanted_of (take i lengths) s ≤ i
wanted_of-bound lengths i s within =
    omega (arith, count_by-le-length (λ n. size_of n == s) (take i lengths), length-take-le i lengths within)
