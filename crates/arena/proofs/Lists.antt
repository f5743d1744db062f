-- Lists of slots, and those of the ten sizes.
use Rattle.std.proofs.Common.{◌≡◌, ◌≢◌, ◌⊎◌, inl, inr, ℕ, zero, suc, ◌+◌, ◌<◌, ◌≤◌, Bool, true, false, ◌||◌, nat_eq, List, [], ◌∷◌, ◌++◌, length, set, get_or, slice_index, refl, sym, ap, ◌∙◌, arith, length-append, length-set, set-set}
use Rattle.std.proofs.lemmas.Bool.Decides.{nat_tests}
use Rattle.std.proofs.lemmas.List.{get_or_default, get_or-replicate, get_or-set_same, get_or-set_other, map-set}
use Rattle.std.proofs.lemmas.Map.Keys.{IsDistinct-push}
use Rattle.std.proofs.lemmas.Map.Made.{length-le_from_is_member}
use Rattle.std.specs.Cmp.{nat_eq_equiv}
use Rattle.std.specs.List.{AllByRecursion, IsDistinct}
use Rattle.std.specs.Set.{is_member}
use Rattle.arena.specs.Spares.{Spare, none, of_sizes, spare_at, counts_of, with_row, with_slot}
use Rattle.arena.proofs.Slots.{same_or_other}

test_same : (a b : ℕ) → a ≡ b → nat_eq a b ≡ true
test_same a b same = grind (arith, nat_tests)

same_from_test : (a b : ℕ) → nat_eq a b ≡ true → a ≡ b
same_from_test a b is = grind (arith, nat_tests)

either : (a b : Bool) → (a || b) ≡ true → (a ≡ true) ⊎ (b ≡ true)
either true b is = inl refl
either false b is = inr is

second : (a b : Bool) → b ≡ true → (a || b) ≡ true
second true b is = refl
second false b is = is

-- where it isn't a member
pub not_member : (xs : List ℕ) (q : ℕ) → (is_member nat_eq xs q ≡ true → ⊥) → is_member nat_eq xs q ≡ false
not_member xs q off = by_test (is_member nat_eq xs q) refl
  where
    by_test : (b : Bool) → is_member nat_eq xs q ≡ b → is_member nat_eq xs q ≡ false
    by_test true is = absurd (off is)
    by_test false is = is

pub pushed_old : (xs : List ℕ) (y q : ℕ) → is_member nat_eq xs q ≡ true
    → is_member nat_eq (xs ++ y ∷ []) q ≡ true
pushed_old [] y q is = cc
pushed_old (x ∷ xs) y q is =
    by_either (either (nat_eq q x) (is_member nat_eq xs q) is) (λ later. pushed_old xs y q later)
  where
    by_either : (nat_eq q x ≡ true) ⊎ (is_member nat_eq xs q ≡ true)
        → (is_member nat_eq xs q ≡ true → is_member nat_eq (xs ++ y ∷ []) q ≡ true)
        → (nat_eq q x || is_member nat_eq (xs ++ y ∷ []) q) ≡ true
    by_either (inl here) after = ap (λ b. b || is_member nat_eq (xs ++ y ∷ []) q) here
    by_either (inr later) after = second (nat_eq q x) _ (after later)

pub pushed_new : (xs : List ℕ) (y : ℕ) → is_member nat_eq (xs ++ y ∷ []) y ≡ true
pushed_new [] y = ap (λ b. b || false) (test_same y y refl)
pushed_new (x ∷ xs) y = second (nat_eq y x) _ (pushed_new xs y)

pub pushed : (xs : List ℕ) (y q : ℕ) → is_member nat_eq (xs ++ y ∷ []) q ≡ true
    → (is_member nat_eq xs q ≡ true) ⊎ (q ≡ y)
pushed [] y q is = by_either (either (nat_eq q y) false is)
  where
    by_either : (nat_eq q y ≡ true) ⊎ (false ≡ true) → (false ≡ true) ⊎ (q ≡ y)
    by_either (inl here) = inr (same_from_test q y here)
    by_either (inr later) = inl later
pushed (x ∷ xs) y q is =
    by_either (either (nat_eq q x) (is_member nat_eq (xs ++ y ∷ []) q) is) (λ later. pushed xs y q later)
  where
    after : (is_member nat_eq xs q ≡ true) ⊎ (q ≡ y)
        → ((nat_eq q x || is_member nat_eq xs q) ≡ true) ⊎ (q ≡ y)
    after (inl old) = inl (second (nat_eq q x) _ old)
    after (inr new) = inr new

    by_either : (nat_eq q x ≡ true) ⊎ (is_member nat_eq (xs ++ y ∷ []) q ≡ true)
        → (is_member nat_eq (xs ++ y ∷ []) q ≡ true → (is_member nat_eq xs q ≡ true) ⊎ (q ≡ y))
        → ((nat_eq q x || is_member nat_eq xs q) ≡ true) ⊎ (q ≡ y)
    by_either (inl here) rest = inl (ap (λ b. b || is_member nat_eq xs q) here)
    by_either (inr later) rest = after (rest later)

pub push_distinct : (xs : List ℕ) (y : ℕ) → IsDistinct nat_eq xs → (is_member nat_eq xs y ≡ true → ⊥)
    → IsDistinct nat_eq (xs ++ y ∷ [])
push_distinct xs y distinct off = IsDistinct-push nat_eq_equiv xs y distinct (not_member xs y off)

all_of_pushed : (P : ℕ → Type 0) (xs : List ℕ) (y : ℕ) → AllByRecursion P (xs ++ y ∷ [])
    → AllByRecursion P xs × P y
all_of_pushed P [] y all = (tt, all.0)
all_of_pushed P (x ∷ xs) y all = let rest = all_of_pushed P xs y all.1 in ((all.0, rest.0), rest.1)

-- the last slot isn't among those before it
pub popped_distinct : (xs : List ℕ) (y : ℕ) → IsDistinct nat_eq (xs ++ y ∷ [])
    → IsDistinct nat_eq xs × (is_member nat_eq xs y ≡ true → ⊥)
unfolding IsDistinct
popped_distinct [] y distinct = (tt, λ is. cc)
popped_distinct (x ∷ xs) y distinct =
    let first = all_of_pushed (λ z. nat_eq x z ≡ false) xs y distinct.0 in
    let rest = popped_distinct xs y distinct.1 in (
      (first.0, rest.0),
      λ is. by_either first.1 rest.1 (either (nat_eq y x) (is_member nat_eq xs y) is),
    )
  where
    by_either : nat_eq x y ≡ false → (is_member nat_eq xs y ≡ true → ⊥)
        → (nat_eq y x ≡ true) ⊎ (is_member nat_eq xs y ≡ true) → ⊥
    by_either apart off (inl here) = let same = test_same x y (sym (same_from_test y x here)) in cc
    by_either apart off (inr later) = off later

pub no_longer : (xs ys : List ℕ) → IsDistinct nat_eq xs
    → ((q : ℕ) → is_member nat_eq xs q ≡ true → is_member nat_eq ys q ≡ true) → length xs ≤ length ys
no_longer xs ys distinct within = length-le_from_is_member nat_eq_equiv xs ys distinct within

-- what is in a list with a row after it
pub row_old : (xs : List ℕ) (first k q : ℕ) → is_member nat_eq xs q ≡ true
    → is_member nat_eq (with_row xs first k) q ≡ true
row_old xs first zero q is = is
row_old xs first (suc k) q is = pushed_old (with_row xs (suc first) k) first q (row_old xs (suc first) k q is)

pub row_new : (xs : List ℕ) (first k q : ℕ) → first ≤ q → q < first + k
    → is_member nat_eq (with_row xs first k) q ≡ true
row_new xs first zero q from below = absurd (omega arith)
row_new xs first (suc k) q from below =
    by_case (same_or_other q first) (λ following. row_new xs (suc first) k q following (omega arith))
  where
    by_case : (q ≡ first) ⊎ (q ≢ first)
        → (suc first ≤ q → is_member nat_eq (with_row xs (suc first) k) q ≡ true)
        → is_member nat_eq (with_row xs (suc first) k ++ first ∷ []) q ≡ true
    by_case (inl same) later = rw same (pushed_new (with_row xs (suc first) k) first)
    by_case (inr other) later = pushed_old (with_row xs (suc first) k) first q (later (omega arith))

pub row_member : (xs : List ℕ) (first k q : ℕ) → is_member nat_eq (with_row xs first k) q ≡ true
    → (is_member nat_eq xs q ≡ true) ⊎ ((first ≤ q) × (q < first + k))
row_member xs first zero q is = inl is
row_member xs first (suc k) q is =
    by_case (pushed (with_row xs (suc first) k) first q is) (λ following. row_member xs (suc first) k q following)
  where
    further : (is_member nat_eq xs q ≡ true) ⊎ ((suc first ≤ q) × (q < suc first + k))
        → (is_member nat_eq xs q ≡ true) ⊎ ((first ≤ q) × (q < first + suc k))
    further (inl old) = inl old
    further (inr new) = inr (omega (arith, new.0), omega (arith, new.1))

    by_case : (is_member nat_eq (with_row xs (suc first) k) q ≡ true) ⊎ (q ≡ first)
        → (is_member nat_eq (with_row xs (suc first) k) q ≡ true
        → (is_member nat_eq xs q ≡ true) ⊎ ((suc first ≤ q) × (q < suc first + k)))
        → (is_member nat_eq xs q ≡ true) ⊎ ((first ≤ q) × (q < first + suc k))
    by_case (inl following) later = further (later following)
    by_case (inr here) later = inr (omega arith, omega arith)

pub row_distinct : (xs : List ℕ) (first k : ℕ) → IsDistinct nat_eq xs
    → ((q : ℕ) → is_member nat_eq xs q ≡ true → q < first) → IsDistinct nat_eq (with_row xs first k)
row_distinct xs first zero distinct below = distinct
row_distinct xs first (suc k) distinct below =
    push_distinct (with_row xs (suc first) k) first
    (row_distinct xs (suc first) k distinct (λ q old. omega (arith, below q old)))
    (λ is. by_case (row_member xs (suc first) k first is))
  where
    by_case : (is_member nat_eq xs first ≡ true) ⊎ ((suc first ≤ first) × (first < suc first + k)) → ⊥
    by_case (inl old) = omega (arith, below first old)
    by_case (inr new) = omega (arith, new.0)

pub length-with_row : (xs : List ℕ) (first k : ℕ) → length (with_row xs first k) ≡ length xs + k
length-with_row xs first zero = omega arith
length-with_row xs first (suc k) =
    omega (arith, length-append (with_row xs (suc first) k) (first ∷ []), length-with_row xs (suc first) k)

-- the sizes
pub spare_at-set_same : (spares : List Spare) (size : ℕ) (s : Spare) → size < length spares
    → spare_at (set spares size s) size ≡ s
spare_at-set_same spares size s within = get_or-set_same spares size s none within

pub spare_at-set_other : (spares : List Spare) (size other : ℕ) (s : Spare) → other ≢ size
    → spare_at (set spares size s) other ≡ spare_at spares other
spare_at-set_other spares size other s apart = get_or-set_other spares size other s none apart

pub count_of : (spares : List Spare) (size : ℕ)
    → slice_index (counts_of spares) size ≡ length (spare_at spares size).slots
count_of [] size = refl
count_of (s ∷ ss) zero = refl
count_of (s ∷ ss) (suc size) = count_of ss size

pub counts_of-set : (spares : List Spare) (size : ℕ) (s : Spare)
    → counts_of (set spares size s) ≡ set (counts_of spares) size (length s.slots)
counts_of-set spares size s = map-set (λ s. length s.slots) spares size s

-- the lists, if there are any, are those of the sizes
of_sizes_some : (lists : List Spare) → 0 < length lists → of_sizes lists ≡ lists
of_sizes_some [] some = absurd (omega arith)
of_sizes_some (s ∷ ss) some = refl

set_own : (lists : List Spare) (i : ℕ) (s : Spare) → i < length lists → spare_at lists i ≡ s → set lists i s ≡ lists
set_own [] i s within is = refl
set_own (x ∷ xs) zero s within is = ap (λ y. y ∷ xs) (sym is)
set_own (x ∷ xs) (suc i) s within is = ap (λ ys. x ∷ ys) (set_own xs i s (omega arith) is)

-- if a size has a spare slot, there are lists
pub within_lists : (lists : List Spare) (size : ℕ) → (lists ≡ []) ⊎ (length lists ≡ 10) → size < 10
    → 0 < length (spare_at (of_sizes lists) size).slots → size < length lists
within_lists lists size (inl empty) below some =
    let none_there : spare_at (of_sizes lists) size ≡ none =
    ap (λ xs. spare_at (of_sizes xs) size) empty ∙ get_or-replicate 10 size none none below in
    absurd (omega (arith, ap (λ s. length s.slots) none_there))
within_lists lists size (inr ten) below some = omega arith

-- a slot is put back where it was taken
pub taken_lists : (lists : List Spare) (size slot : ℕ) (new read : Spare) → size < length lists
    → read ≡ get_or lists size read → read ≡ with_slot new slot
    → of_sizes lists ≡ set (of_sizes (set lists size new)) size
    (with_slot (spare_at (of_sizes (set lists size new)) size) slot)
taken_lists lists size slot new read within found is =
    let own : spare_at lists size ≡ with_slot new slot =
    get_or_default lists size none read within ∙ sym found ∙ is in
    rw (
      of_sizes_some lists (omega arith),
      of_sizes_some (set lists size new) (omega (arith, length-set lists size new)),
      spare_at-set_same lists size new within,
      set-set lists size new (with_slot new slot),
    )
    (sym (set_own lists size (with_slot new slot) within own))
