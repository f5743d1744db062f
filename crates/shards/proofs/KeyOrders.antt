-- Keys in order, those of them that come after a key, and how many come before one.
use Rattle.std.proofs.Common.{◌≡◌, ◌∙◌, ℕ, zero, suc, ◌+◌, ◌-◌, ◌<◌, ◌≤◌, Bool, true, false, not, cond, List, [], ◌∷◌, ◌++◌, length, get_or, take, drop, is_lt, nat_cmp, count_by, IsSorted, IsSortedBy, refl, sym, ap, subst, inl, inr, arith, All, Bor, length-append, length-take, length-drop, take-append-drop, get_or-take, get_or-drop}
use Rattle.std.specs.Prelude.{Some, slice_get}
use Rattle.std.specs.Cmp.Lexicographic.{slice_cmp}
use Rattle.std.specs.List.Sorted.{IsPartitionPoint, IsPartitionedBy}
use Rattle.std.proofs.lemmas.Bool.{cases_lt}
use Rattle.std.proofs.lemmas.Cmp.{nat_list_cmp_total}
use Rattle.std.proofs.lemmas.List.{map-append, get_or-append_right}
use Rattle.std.proofs.lemmas.List.Elements.{All-nil, All-cons, All-head, All-tail, All-map, All-weaker}
use Rattle.std.proofs.lemmas.List.Sorted.{ranks_by, sorted_far}
use Rattle.std.proofs.lemmas.List.Sums.{sum_by-cons}
use Rattle.std.proofs.lemmas.Option.{slice_get_within, get_or_from_slice_get}
use Rattle.keys.specs.Key.{is_before, IsBefore, IsAtMost}
use Rattle.keys.proofs.callers.KeyOrder.{at_most_itself, at_most_trans, not_before_itself}
use Rattle.shards.specs.Picking.{keys_of, IsRestAfter}

not_false : (b : Bool) → not b ≡ false → b ≡ true
not_false true h = refl
not_false false h = cc

-- no key comes before one that is listed before it
abbrev pub AreOrdered : List (List ℕ) → Type 0
AreOrdered [] = Unit {0}
AreOrdered (key ∷ keys) = All (IsAtMost key) keys × AreOrdered keys

pub ordered_rest : (front rest : List (List ℕ)) → AreOrdered (front ++ rest) → AreOrdered rest
ordered_rest [] rest ordered = ordered
ordered_rest (key ∷ front) rest ordered = ordered_rest front rest ordered.1

sorted_tail : {X : Type 0} (lt : X → X → Bool) (x : X) (xs : List X) → IsSortedBy lt (x ∷ xs) → IsSortedBy lt xs
sorted_tail lt x xs sorted k d low within =
    let next : suc k + 1 ≡ suc (k + 1) = omega arith in
    subst (λ (n : ℕ). lt (get_or (x ∷ xs) n d) (get_or xs k d) ≡ false) next (sorted (suc k) d (omega arith) (omega (arith, within)))

-- the last of sorted elements are sorted
pub sorted_drop : {X : Type 0} (lt : X → X → Bool) (n : ℕ) (xs : List X) → IsSortedBy lt xs → IsSortedBy lt (drop n xs)
sorted_drop lt zero xs sorted = sorted
sorted_drop lt (suc n) [] sorted = sorted
sorted_drop lt (suc n) (x ∷ xs) sorted = sorted_drop lt n xs (sorted_tail lt x xs sorted)

abbrev key_lt : Bor (List ℕ) → Bor (List ℕ) → Bool
key_lt a b = is_lt (slice_cmp nat_cmp a.now b.now)

-- what a sort of keys by reference ensures
pub ordered_from_sorted : (keys : List (Bor (List ℕ))) → IsSorted (λ (a b : Bor (List ℕ)). slice_cmp nat_cmp a.now b.now) keys
    → AreOrdered (keys_of keys)
ordered_from_sorted [] sorted = tt
ordered_from_sorted (key ∷ []) sorted = (All-nil (IsAtMost key.now), tt)
ordered_from_sorted (key ∷ next ∷ keys) sorted =
    let rest = ordered_from_sorted (next ∷ keys) (sorted_tail key_lt key (next ∷ keys) sorted) in
    let first : IsAtMost key.now next.now = ap not (sorted 0 key (omega arith) (omega arith)) in (
      All-cons (IsAtMost key.now) next.now (keys_of keys) first
          (All-weaker (IsAtMost next.now) (IsAtMost key.now) (λ other h. at_most_trans key.now next.now other first h) (keys_of keys) rest.0),
      rest,
    )

module _ (keys : List (Bor (List ℕ))) (sorted : IsSorted (λ (a b : Bor (List ℕ)). slice_cmp nat_cmp a.now b.now) keys) (key : List ℕ) where
  -- the keys up to a key come before the others
  pub up_to_first : IsPartitionedBy (λ (other : Bor (List ℕ)). not (is_before key other.now)) keys
  up_to_first i j d order within at_most =
      let rises : IsAtMost (get_or keys i d).now (get_or keys j d).now =
      ap not (sorted_far key_lt (ranks_by nat_list_cmp_total (λ (k : Bor (List ℕ)). k.now)) keys sorted i j d order within) in
      at_most_trans (get_or keys i d).now (get_or keys j d).now key rises at_most

module _ (keys : List (Bor (List ℕ))) (key : List ℕ) (n : ℕ)
    (parted : IsPartitionPoint (λ (other : Bor (List ℕ)). not (is_before key other.now) ≡ true) (λ other. not (is_before key other.now) ≡ false) keys n) where
  front_at_most : All (λ (other : Bor (List ℕ)). IsAtMost other.now key) (take n keys)
  front_at_most k d inside =
      let below : k < n = omega (arith, inside, length-take n keys) in
      subst (λ (other : Bor (List ℕ)). IsAtMost other.now key) (sym (get_or-take n keys k d below)) (parted.0 k d (omega arith) below)

  rest_after : All (λ (other : Bor (List ℕ)). IsBefore key other.now) (drop n keys)
  rest_after k d inside =
      let within : n + k < length keys = omega (arith, inside, length-drop n keys) in
      subst (λ (other : Bor (List ℕ)). IsBefore key other.now) (sym (get_or-drop n keys k d))
      (not_false (is_before key (get_or keys (n + k) d).now) (parted.1 (n + k) d (omega arith) within))

  pub rest_from_point : IsRestAfter key (keys_of keys) (keys_of (drop n keys))
  rest_from_point = record {
    front = keys_of (take n keys);
    parts =
        ap keys_of (sym (take-append-drop n keys))
        ∙ map-append (λ (k : Bor (List ℕ)). k.now) (take n keys) (drop n keys);
    others = All-map (λ (other : List ℕ). IsAtMost other key) (λ (k : Bor (List ℕ)). k.now) (take n keys) front_at_most;
    after = All-map (λ (other : List ℕ). IsBefore key other) (λ (k : Bor (List ℕ)). k.now) (drop n keys) rest_after;
  }

-- a key of the rest, and those before it, aren't in it any more after the next step
pub fewer_left : (keys rest : List (List ℕ)) (e : ℕ) (point : List ℕ) → slice_get keys e ≡ Some point → IsRestAfter point keys rest
    → length rest + e + 1 ≤ length keys
fewer_left keys rest e point at h =
    let long : length keys ≡ length (h.front ++ rest) = ap length h.parts in
    let within = slice_get_within keys e point at in
    elim (cases_lt e (length h.front)) [
      | inl before ↦ omega (arith, long, length-append h.front rest, before)
      | inr past ↦
          let inside : e - length h.front < length rest = omega (arith, long, length-append h.front rest, within, past) in
          let here : get_or rest (e - length h.front) point ≡ point =
          sym (get_or-append_right h.front rest (length h.front) e point refl past)
          ∙ ap (λ (all : List (List ℕ)). get_or all e point) (sym h.parts) ∙ get_or_from_slice_get keys e point point at in
          let after : IsBefore point point = subst (IsBefore point) here (h.after (e - length h.front) point inside) in
          let no : false ≡ true = sym (not_before_itself point) ∙ after in
          cc
    ]

pub count_none : (test : List ℕ → Bool) (keys : List (List ℕ)) → All (λ key. test key ≡ false) keys → count_by test keys ≡ 0
count_none test [] none = refl
count_none test (key ∷ keys) none =
    let rest = count_none test keys (All-tail (λ key. test key ≡ false) key keys none) in
    let first : cond (test key) 1 0 ≡ 0 = ap (λ b. cond b 1 0) (All-head (λ key. test key ≡ false) key keys none) in
    let step : count_by test (key ∷ keys) ≡ cond (test key) 1 0 + count_by test keys = sum_by-cons (λ (k : List ℕ). cond (test k) 1 0) key keys in
    step ∙ ap (λ m. m + count_by test keys) first ∙ ap (λ m. 0 + m) rest

at_most_one : (b : Bool) → cond b 1 0 ≤ 1
at_most_one true = omega arith
at_most_one false = omega arith

-- If the test fails from a key of the list on, no more keys pass it than come before that one.
pub few_before : (test : List ℕ → Bool) (keys : List (List ℕ)) (e : ℕ) (point : List ℕ) → AreOrdered keys → slice_get keys e ≡ Some point
    → ((key : List ℕ) → IsAtMost point key → test key ≡ false) → count_by test keys ≤ e
few_before test [] e point ordered at fails = absurd (let no : ⊥ = cc in no)
few_before test (key ∷ keys) zero point ordered at fails =
    let same : key ≡ point = cc in
    let from = All-cons (IsAtMost key) key keys (at_most_itself key) ordered.0 in
    let none = All-weaker (IsAtMost key) (λ k. test k ≡ false) (λ k h. fails k (subst (λ (p : List ℕ). IsAtMost p k) same h)) (key ∷ keys) from in
    omega (arith, count_none test (key ∷ keys) none)
few_before test (key ∷ keys) (suc e) point ordered at fails =
    let rest = few_before test keys e point ordered.1 at fails in
    let step : count_by test (key ∷ keys) ≡ cond (test key) 1 0 + count_by test keys = sum_by-cons (λ (k : List ℕ). cond (test k) 1 0) key keys in
    omega (arith, rest, step, at_most_one (test key))
