-- Names, each once.
use Rattle.std.proofs.Common.{◌≡◌, ℕ, ◌+◌, ◌<◌, Bool, true, false, cond, List, [], ◌∷◌, ◌++◌, length, take, get_or, map, count_by, String, string_bytes, refl, sym, ap, subst, ◌∙◌, arith, if◌then◌else◌}
use Rattle.std.specs.Prelude.{◌||◌, slice_get, flat_map}
use Rattle.std.specs.List.{list_any}
use Rattle.std.specs.Str.{bytes_eq}
use Rattle.std.proofs.lemmas.List.{append-nil, get_or-map, length-map, take_more}
use Rattle.std.proofs.lemmas.List.Folds.{list_any_at}
use Rattle.std.proofs.lemmas.List.Concat.{flat_map-append}
use Rattle.std.proofs.lemmas.List.Sums.{sum_by-cons, sum_by_push}
use Rattle.std.proofs.lemmas.Slice.Eq.{bytes_eq-Decides}
use Rattle.keyspace.specs.declared.txn.Txn.{Txn}
use Rattle.batches_report.specs.Names.{AreEachOnce, is_among, name_if_some, names_at}
use Rattle.batches_report.proofs.AnyLast.{any_last, or_false}

abbrev one_if : Bool → ℕ
one_if b = cond b 1 0

-- a test that passes somewhere passes at least once, and a test that passes nowhere never
some_step : (b a : Bool) (n : ℕ) → (a ≡ true → 0 < n) → (b || a) ≡ true → 0 < cond b 1 0 + n
some_step true a n more passes = omega arith
some_step false a n more passes = omega (arith, more passes)

none_step : (b a : Bool) (n : ℕ) → (a ≡ false → n ≡ 0) → (b || a) ≡ false → cond b 1 0 + n ≡ 0
none_step true a n more passes = cc
none_step false a n more passes = omega (arith, more passes)

counts_some : (p : List ℕ → Bool) (xs : List (List ℕ)) → list_any p xs ≡ true → 0 < count_by p xs
counts_some p [] passes = cc
counts_some p (x ∷ xs) passes =
    subst (λ (n : ℕ). 0 < n) (sym (sum_by-cons (λ (y : List ℕ). cond (p y) 1 0) x xs))
    (some_step (p x) (list_any p xs) (count_by p xs) (counts_some p xs) passes)

counts_none : (p : List ℕ → Bool) (xs : List (List ℕ)) → list_any p xs ≡ false → count_by p xs ≡ 0
counts_none p [] passes = refl
counts_none p (x ∷ xs) passes =
    sum_by-cons (λ (y : List ℕ). cond (p y) 1 0) x xs
    ∙ none_step (p x) (list_any p xs) (count_by p xs) (counts_none p xs) passes

or_true : (b : Bool) → (b || true) ≡ true
or_true true = refl
or_true false = refl

-- the name is among all if it is among these
all_have : (all these : List (List ℕ)) (name : List ℕ) → AreEachOnce all these → is_among these name ≡ true → is_among all name ≡ true
all_have all these name once among = go (is_among all name) refl
  where
    go : (b : Bool) → is_among all name ≡ b → b ≡ true
    go true is = refl
    go false is =
        let some = counts_some (bytes_eq name) these among in
        let none : count_by (bytes_eq name) these ≡ 0 = once name ∙ ap one_if is in
        absurd (omega arith)

-- a name that is there already
still_at : (all these : List (List ℕ)) (name : List ℕ) → AreEachOnce all these → is_among these name ≡ true → (other : List ℕ)
    → count_by (bytes_eq other) these ≡ (if is_among (all ++ name ∷ []) other then 1 else 0)
still_at all these name once among other = once other ∙ ap one_if (sym (any_last (bytes_eq other) all name ∙ go (bytes_eq other name) refl))
  where
    go : (b : Bool) → bytes_eq other name ≡ b → (is_among all other || bytes_eq other name) ≡ is_among all other
    go true is =
        let same : other ≡ name = (bytes_eq-Decides other name).0 is in
        let has : is_among all other ≡ true = all_have all these other once (ap (is_among these) same ∙ among) in
        ap (λ b. b || bytes_eq other name) has ∙ sym has
    go false is = ap (λ b. is_among all other || b) is ∙ or_false (is_among all other)

pub once_still : (all these : List (List ℕ)) (name : List ℕ) → AreEachOnce all these → is_among these name ≡ true
    → AreEachOnce (all ++ name ∷ []) these
once_still all these name once among = λ other. still_at all these name once among other

-- a new name
more_at : (all these : List (List ℕ)) (name : List ℕ) → AreEachOnce all these → is_among these name ≡ false → (other : List ℕ)
    → count_by (bytes_eq other) (these ++ name ∷ []) ≡ (if is_among (all ++ name ∷ []) other then 1 else 0)
more_at all these name once among other =
    sum_by_push (λ (x : List ℕ). cond (bytes_eq other x) 1 0) these name
    ∙ go (bytes_eq other name) refl
    ∙ ap one_if (sym (any_last (bytes_eq other) all name))
  where
    go : (b : Bool) → bytes_eq other name ≡ b → count_by (bytes_eq other) these + cond (bytes_eq other name) 1 0
        ≡ one_if (is_among all other || bytes_eq other name)
    go true is =
        let same : other ≡ name = (bytes_eq-Decides other name).0 is in
        let none : count_by (bytes_eq other) these ≡ 0 = counts_none (bytes_eq other) these (ap (is_among these) same ∙ among) in
        let left : count_by (bytes_eq other) these + cond (bytes_eq other name) 1 0 ≡ 1 = rw is (omega arith) in
        left ∙ ap one_if (sym (ap (λ b. is_among all other || b) is ∙ or_true (is_among all other)))
    go false is =
        let left : count_by (bytes_eq other) these + cond (bytes_eq other name) 1 0 ≡ count_by (bytes_eq other) these = rw is (omega arith) in
        left ∙ once other ∙ ap one_if (sym (ap (λ b. is_among all other || b) is ∙ or_false (is_among all other)))

pub once_more : (all these : List (List ℕ)) (name : List ℕ) → AreEachOnce all these → is_among these name ≡ false
    → AreEachOnce (all ++ name ∷ []) (these ++ name ∷ [])
once_more all these name once among = λ other. more_at all these name once among other

-- the names at one place more
pub names_more : (t : Txn) (places : List ℕ) (i : ℕ) (place : ℕ) → i < length places → place ≡ get_or places i 0
    → names_at t (take (i + 1) places) ≡ names_at t (take i places) ++ name_if_some (slice_get t.reads place)
names_more t places i place within is =
    ap (names_at t) (take_more places i 0 within ∙ ap (λ p. take i places ++ p ∷ []) (sym is))
    ∙ flat_map-append (λ p. name_if_some (slice_get t.reads p)) (take i places) (place ∷ [])
    ∙ ap (λ (more : List (List ℕ)). names_at t (take i places) ++ more) (append-nil (name_if_some (slice_get t.reads place)))

-- the name at an index
pub found_at : {Y : Type 0} (names : List (String Y)) (i : ℕ) (s : String Y) (name : List ℕ) → i < length names → s ≡ get_or names i s
    → bytes_eq name (string_bytes s) ≡ true → is_among (map string_bytes names) name ≡ true
found_at names i s name within is same =
    let inside : i < length (map string_bytes names) = omega (arith, within, length-map names string_bytes) in
    list_any_at (bytes_eq name) (map string_bytes names) i (string_bytes s) inside
    (ap (bytes_eq name) (get_or-map string_bytes names i s (string_bytes s) within ∙ ap string_bytes (sym is)) ∙ same)
