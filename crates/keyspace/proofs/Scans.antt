-- The tests of `Judge` answer what the words of `Judged` say.
use Rattle.std.proofs.Common.{
  ◌≡◌,
  ℕ,
  zero,
  suc,
  ◌<◌,
  Bool,
  true,
  ◌&&◌,
  ◌||◌,
  List,
  [],
  ◌∷◌,
  length,
  refl,
  inl,
  inr,
  ◌⊎◌,
  arith,
  get_or,
}
use Rattle.std.specs.Prelude.{ℤ, ◌<ℤ◌, int_lt, Some, None, slice_get, IsSomeAnd, Any, nat_lt}
use Rattle.std.specs.List.{list_any}
use borrow.Author.Tests.{ltb-true}
use Rattle.keys.specs.declared.range.Range.{Range}
use Rattle.keyspace.specs.declared.txn.Txn.{Txn}
use Rattle.keys.specs.Range.{Meets, ranges_meet}
use Rattle.keyspace.specs.Writes.{Write}
use Rattle.keyspace.specs.Judged.{IsTooOld, IsHit, MeetsEarlier, IsInConflict}
use Rattle.keyspace.specs.Judge.{is_too_old, is_hit, meets_earlier, is_in_conflict}
use Rattle.keys.proofs.callers.Booleans.{and_left, and_right, and_both, or_either, or_left, or_right}
use Rattle.keys.proofs.callers.Meeting.{meets_from_test, test_from_meets}
use Rattle.keyspace.proofs.Rising.{PassesAt}

lt_from_test : (a b : ℤ) → int_lt a b ≡ true → a <ℤ b
lt_from_test a b h = grind arith

test_from_lt : (a b : ℤ) → a <ℤ b → int_lt a b ≡ true
test_from_lt a b h = grind arith

-- if some element passes, P holds of one
pub any_from_test : {X : Type 0} (P : X → Type 0) (test : X → Bool) (xs : List X)
    → ((x : X) → test x ≡ true → P x) → list_any test xs ≡ true → Any P xs
any_from_test P test [] f h = cc
any_from_test P test (x ∷ xs) f h = elim (or_either (test x) (list_any test xs) h) [
  | inl k ↦ (0, x, omega arith, refl, f x k)
  | inr k ↦ let a = any_from_test P test xs f k in (suc a.0, a.1, omega (arith, a.2), a.3, a.4)
]

test_at_index : {X : Type 0} (P : X → Type 0) (test : X → Bool) (xs : List X)
    → ((x : X) → P x → test x ≡ true) → (k : ℕ) (x : X) → k < length xs → get_or xs k x ≡ x → P x
    → list_any test xs ≡ true
test_at_index P test [] f k x l e p = absurd (omega arith)
test_at_index P test (y ∷ ys) f zero x l e p = or_left (test y) (list_any test ys) (rw e (f x p))
test_at_index P test (y ∷ ys) f (suc k) x l e p =
    or_right (test y) (list_any test ys) (test_at_index P test ys f k x (omega arith) e p)

pub test_from_any : {X : Type 0} (P : X → Type 0) (test : X → Bool) (xs : List X)
    → ((x : X) → P x → test x ≡ true) → Any P xs → list_any test xs ≡ true
test_from_any P test xs f a = test_at_index P test xs f a.0 a.1 a.2 a.3 a.4

-- the same by indices
pub index_from_test : {X : Type 0} (test : X → Bool) (xs : List X) → list_any test xs ≡ true
    → (i : ℕ) × IsSomeAnd (slice_get xs i) (λ x. test x ≡ true)
index_from_test test [] h = cc
index_from_test test (x ∷ xs) h = elim (or_either (test x) (list_any test xs) h) [
  | inl k ↦ (0, k)
  | inr k ↦ let p = index_from_test test xs k in (suc p.0, p.1)
]

pub test_from_index : {X : Type 0} (test : X → Bool) (xs : List X) (i : ℕ)
    → IsSomeAnd (slice_get xs i) (λ x. test x ≡ true) → list_any test xs ≡ true
test_from_index test [] i h = elim h [ ]
test_from_index test (x ∷ xs) zero h = or_left (test x) (list_any test xs) h
test_from_index test (x ∷ xs) (suc i) h = or_right (test x) (list_any test xs) (test_from_index test xs i h)

pub some_and_map : {X : Type 0} (P Q : X → Type 0) (o : _) → ((x : X) → P x → Q x) → IsSomeAnd o P
    → IsSomeAnd o Q
some_and_map P Q None f h = h
some_and_map P Q (Some x) f h = f x h

pub too_old_from_test : (edge : ℤ) (t : Txn) → is_too_old edge t ≡ true → IsTooOld edge t
too_old_from_test edge t h = (
  ltb-true _ _ (and_left (nat_lt 0 (length t.reads)) (int_lt t.snapshot edge) h),
  lt_from_test t.snapshot edge (and_right (nat_lt 0 (length t.reads)) (int_lt t.snapshot edge) h),
)

pub test_from_too_old : (edge : ℤ) (t : Txn) → IsTooOld edge t → is_too_old edge t ≡ true
test_from_too_old edge t h =
    and_both (nat_lt 0 (length t.reads)) (int_lt t.snapshot edge) (grind (arith, h.0))
    (test_from_lt t.snapshot edge h.1)

abbrev IsWrittenOver : Txn → Range → Write → Type 0
IsWrittenOver t range w = Meets range w.range × (t.snapshot <ℤ w.version)

pub range_hit_from_test : (ws : List Write) (t : Txn) (range : Range) → is_hit ws t range ≡ true
    → Any (λ w. Meets range w.range × (t.snapshot <ℤ w.version)) ws
range_hit_from_test ws t range h =
    any_from_test (IsWrittenOver t range) (λ w. ranges_meet range w.range && int_lt t.snapshot w.version) ws
    (λ w k. (
      meets_from_test range w.range
          (and_left (ranges_meet range w.range) (int_lt t.snapshot w.version) k),
      lt_from_test t.snapshot w.version
          (and_right (ranges_meet range w.range) (int_lt t.snapshot w.version) k),
    )) h

pub test_from_range_hit : (ws : List Write) (t : Txn) (range : Range)
    → Any (λ w. Meets range w.range × (t.snapshot <ℤ w.version)) ws → is_hit ws t range ≡ true
test_from_range_hit ws t range a =
    test_from_any (IsWrittenOver t range) (λ w. ranges_meet range w.range && int_lt t.snapshot w.version) ws
    (λ w k. and_both (ranges_meet range w.range) (int_lt t.snapshot w.version)
    (test_from_meets range w.range k.0) (test_from_lt t.snapshot w.version k.1)) a

pub hit_from_test : (ws : List Write) (t : Txn) (i : ℕ) → PassesAt (is_hit ws t) t.reads i → IsHit ws t i
hit_from_test ws t i h =
    some_and_map (λ range. is_hit ws t range ≡ true) (λ range. Any (IsWrittenOver t range) ws)
    (slice_get t.reads i) (λ range k. range_hit_from_test ws t range k) h

pub test_from_hit : (ws : List Write) (t : Txn) (i : ℕ) → IsHit ws t i → PassesAt (is_hit ws t) t.reads i
test_from_hit ws t i h =
    some_and_map (λ range. Any (IsWrittenOver t range) ws) (λ range. is_hit ws t range ≡ true)
    (slice_get t.reads i) (λ range k. test_from_range_hit ws t range k) h

pub earlier_from_test : (earlier : List Range) (t : Txn) (i : ℕ) → PassesAt (meets_earlier earlier) t.reads i
    → MeetsEarlier earlier t i
earlier_from_test earlier t i h =
    some_and_map (λ range. meets_earlier earlier range ≡ true) (λ range. Any (Meets range) earlier)
    (slice_get t.reads i)
    (λ range k. any_from_test (Meets range) (ranges_meet range) earlier (meets_from_test range) k) h

pub test_from_earlier : (earlier : List Range) (t : Txn) (i : ℕ) → MeetsEarlier earlier t i
    → PassesAt (meets_earlier earlier) t.reads i
test_from_earlier earlier t i h =
    some_and_map (λ range. Any (Meets range) earlier) (λ range. meets_earlier earlier range ≡ true)
    (slice_get t.reads i)
    (λ range k. test_from_any (Meets range) (ranges_meet range) earlier (test_from_meets range) k) h

either_at : (ws : List Write) (earlier : List Range) (t : Txn) (ranges : List Range) (i : ℕ)
    → PassesAt (λ range. is_hit ws t range || meets_earlier earlier range) ranges i
    → PassesAt (is_hit ws t) ranges i ⊎ PassesAt (meets_earlier earlier) ranges i
either_at ws earlier t [] i h = elim h [ ]
either_at ws earlier t (r ∷ rs) zero h = or_either (is_hit ws t r) (meets_earlier earlier r) h
either_at ws earlier t (r ∷ rs) (suc i) h = either_at ws earlier t rs i h

pub conflict_from_test : (ws : List Write) (earlier : List Range) (t : Txn)
    → is_in_conflict ws earlier t ≡ true → IsInConflict ws earlier t
conflict_from_test ws earlier t h =
    let p = index_from_test (λ range. is_hit ws t range || meets_earlier earlier range) t.reads h in
    elim (either_at ws earlier t t.reads p.0 p.1) [
      | inl k ↦ (p.0, inl (hit_from_test ws t p.0 k))
      | inr k ↦ (p.0, inr (earlier_from_test earlier t p.0 k))
    ]

test_from_either : (ws : List Write) (earlier : List Range) (t : Txn) (i : ℕ)
    → IsHit ws t i ⊎ MeetsEarlier earlier t i
    → PassesAt (λ range. is_hit ws t range || meets_earlier earlier range) t.reads i
test_from_either ws earlier t i (inl h) =
    some_and_map (λ range. is_hit ws t range ≡ true)
    (λ range. (is_hit ws t range || meets_earlier earlier range) ≡ true) (slice_get t.reads i)
    (λ range k. or_left (is_hit ws t range) (meets_earlier earlier range) k) (test_from_hit ws t i h)
test_from_either ws earlier t i (inr h) =
    some_and_map (λ range. meets_earlier earlier range ≡ true)
    (λ range. (is_hit ws t range || meets_earlier earlier range) ≡ true) (slice_get t.reads i)
    (λ range k. or_right (is_hit ws t range) (meets_earlier earlier range) k)
    (test_from_earlier earlier t i h)

pub test_from_conflict : (ws : List Write) (earlier : List Range) (t : Txn) → IsInConflict ws earlier t
    → is_in_conflict ws earlier t ≡ true
test_from_conflict ws earlier t c =
    test_from_index (λ range. is_hit ws t range || meets_earlier earlier range) t.reads c.0
    (test_from_either ws earlier t c.0 c.1)
