-- The marked ranges in the order of their begins, and in their own.
use Rattle.std.proofs.Common.{◌≡◌, ◌⊎◌, ℕ, suc, ◌+◌, ◌<◌, Bool, true, false, cond, List, [], ◌∷◌, ◌++◌, length, get_or, take, filter, sum_by, append-nil, refl, sym, ap, subst, ◌∙◌, inl, inr, arith}
use Rattle.std.specs.Prelude.{All, AllPairs, Any, Option, Some, None, flat_map, slice_get}
use Rattle.std.specs.List.Sorted.{IsPermutation}
use Rattle.std.proofs.lemmas.List.{flat_map_more, get_or-take, get_or_default, length-take, take_more}
use Rattle.std.proofs.lemmas.List.Concat.{flat_map-cons}
use Rattle.std.proofs.lemmas.List.Elements.{All-append, All-cons, All-nil, All-head, All-tail, All-weaker}
use Rattle.std.proofs.lemmas.List.Sorted.{Contains-permutation, IsPermutation-sym, sum_by-IsPermutation}
use Rattle.std.proofs.lemmas.List.Sums.{sum_by-append, sum_by-cons}
use Rattle.keys.specs.Key.{IsAtMost}
use Rattle.keys.specs.Range.{Holds, IsEmpty, is_filled}
use Rattle.keys.specs.GapRuns.{BeginsFirst, filled_from}
use Rattle.keys.specs.declared.range.Range.{Range}
use Rattle.keys.proofs.callers.KeyOrder.{not_both}
use Rattle.keys.proofs.callers.Meeting.{before_unless_empty}
use Rattle.keys.proofs.callers.SomeElement.{Any-cases, Any-first, Any-later, Any-left, Any-none, Any-parts, Any-right}
use Rattle.stepmap.specs.Counting.{filled_count}
use Rattle.stepmap.specs.Uniting.{IsEndIn, Unites}
use Rattle.conflict.specs.Union.{marked_ranges, HaveWrittenInOrder}

-- the range, if there is one
abbrev range_if_some : Option Range → List Range
range_if_some (Some range) = range ∷ []
range_if_some None = []

-- the range at the index, if it is marked
abbrev pub marked_at : List Bool → List Range → ℕ → List Range
marked_at marks ranges index = cond (get_or marks index false) (range_if_some (slice_get ranges index)) []

-- those at the indices
abbrev pub listed_ranges : List Bool → List Range → List ℕ → List Range
listed_ranges marks ranges order = flat_map (marked_at marks ranges) order

module _ (marks : List Bool) (ranges : List Range) (order : List ℕ) (i index : ℕ) (inside : i < length order)
    (is : get_or order i index ≡ index) where
  next_listed : (more : List Range) → marked_at marks ranges index ≡ more
      → listed_ranges marks ranges (take i order) ++ more ≡ listed_ranges marks ranges (take (i + 1) order)
  next_listed more same =
      ap (λ rs. listed_ranges marks ranges (take i order) ++ rs) (sym same)
      ∙ flat_map_more (marked_at marks ranges) [] (take i order) index
      ∙ ap (λ e. listed_ranges marks ranges (take i order ++ e ∷ [])) (sym is)
      ∙ ap (listed_ranges marks ranges) (sym (take_more order i index inside))

  -- a marked range is one more
  pub marked_next : (range : Range) → slice_get ranges index ≡ Some range → get_or marks index false ≡ true
      → listed_ranges marks ranges (take i order) ++ range ∷ [] ≡ listed_ranges marks ranges (take (i + 1) order)
  marked_next range at marked = next_listed (range ∷ []) (rw (marked, at) refl)

  -- one that isn't adds none
  pub unmarked_next : get_or marks index false ≡ false
      → listed_ranges marks ranges (take i order) ≡ listed_ranges marks ranges (take (i + 1) order)
  unmarked_next marked =
      sym (append-nil (listed_ranges marks ranges (take i order))) ∙ next_listed [] (rw marked refl)

All-flat_map : {X Y : Type 0} (P : Y → Type 0) (f : X → List Y) (xs : List X) → All (λ x. All P (f x)) xs
    → All P (flat_map f xs)
All-flat_map P f [] all = All-nil P
All-flat_map {X = X} P f (x ∷ xs) all =
    let A : X → Type 0 = λ x. All P (f x) in
    subst (All P) (sym (flat_map-cons f x xs)) (All-append P (f x) (flat_map f xs) (All-head A x xs all)
    (All-flat_map P f xs (All-tail A x xs all)))

-- a property of the range, if there is one, holds of it marked or not
all_marked : (P : Range → Type 0) (marks : List Bool) (ranges : List Range) (index : ℕ)
    → ((r : Range) → slice_get ranges index ≡ Some r → P r) → All P (marked_at marks ranges index)
all_marked P marks ranges index holds =
    elim (get_or marks index false) as (λ b. All P (cond b (range_if_some (slice_get ranges index)) [])) [
      | true ↦ of (slice_get ranges index) refl
      | false ↦ All-nil P
    ]
  where
    of : (o : Option Range) → slice_get ranges index ≡ o → All P (range_if_some o)
    of None at = All-nil P
    of (Some r) at = All-cons P r [] (holds r at) (All-nil P)

-- the marked ranges before the next one don't begin after it
pub listed_before : (marks : List Bool) (ranges : List Range) (order : List ℕ) (i index : ℕ) (range : Range)
    → AllPairs (BeginsFirst ranges) order → i < length order → get_or order i index ≡ index
    → slice_get ranges index ≡ Some range
    → All (λ e. IsAtMost e.begin range.begin) (listed_ranges marks ranges (take i order))
listed_before marks ranges order i index range pairs inside is at =
    All-flat_map (λ e. IsAtMost e.begin range.begin) (marked_at marks ranges) (take i order) (λ k d below.
    let before : k < i = omega (arith, length-take i order, below) in
    let here : k < length order = omega (arith, before, inside) in
    let same : get_or (take i order) k d ≡ get_or order k index =
    get_or-take i order k d before ∙ get_or_default order k d index here in
    let first = pairs k i index before inside in
    subst (λ n. All (λ e. IsAtMost e.begin range.begin) (marked_at marks ranges n)) (sym same)
    (all_marked (λ e. IsAtMost e.begin range.begin) marks ranges (get_or order k index) (λ r there. first r range there
    (subst (λ n. slice_get ranges n ≡ Some range) (sym is) at))))

module _ {X Y : Type 0} (f : X → List Y) (P : Y → Type 0) where
  any_in : (xs : List X) → Any P (flat_map f xs) → Any (λ x. Any P (f x)) xs
  any_in [] a = absurd (Any-none P a)
  any_in (x ∷ xs) a =
      elim (Any-parts P (f x) (flat_map f xs) (subst (Any P) (flat_map-cons f x xs) a)) [
        | inl here ↦ Any-first (λ x. Any P (f x)) x xs here
        | inr later ↦ Any-later (λ x. Any P (f x)) x xs (any_in xs later)
      ]

  any_from : (xs : List X) → Any (λ x. Any P (f x)) xs → Any P (flat_map f xs)
  any_from [] a = absurd (Any-none (λ x. Any P (f x)) a)
  any_from (x ∷ xs) a =
      subst (Any P) (sym (flat_map-cons f x xs)) (elim (Any-cases (λ x. Any P (f x)) x xs a) [
        | inl here ↦ Any-left P (f x) (flat_map f xs) here
        | inr later ↦ Any-right P (f x) (flat_map f xs) (any_from xs later)
      ])

any_moved : {X : Type 0} (P : X → Type 0) (xs ys : List X) → IsPermutation xs ys → Any P xs → Any P ys
any_moved P xs ys moved a =
    let there = Contains-permutation xs ys a.1 moved (a.0, a.2, a.3) in
    (there.0, a.1, there.1, there.2, a.4)

count_in : {X : Type 0} (f : X → List Range) (xs : List X)
    → filled_count (flat_map f xs) ≡ sum_by (λ x. filled_count (f x)) xs
count_in f [] = refl
count_in f (x ∷ xs) =
    ap filled_count (flat_map-cons f x xs)
    ∙ sum_by-append (λ r. cond (is_filled r) 1 0) (f x) (flat_map f xs)
    ∙ ap (λ n. filled_count (f x) + n) (count_in f xs)
    ∙ sym (sum_by-cons (λ x. filled_count (f x)) x xs)

-- listed by their indices the marked ranges that aren't empty are those in order
listed_filled : (f : ℕ → List Range) (first : ℕ) (marks : List Bool) (ranges : List Range)
    → ((k : ℕ) → f (first + k) ≡ marked_at marks ranges k)
    → flat_map f (filled_from first ranges) ≡ filter is_filled (marked_ranges marks ranges)
listed_filled f first [] [] same = refl
listed_filled f first (mark ∷ marks) [] same = refl
listed_filled f first [] (r ∷ ranges) same =
    let F = filled_from (first + 1) ranges in
    let rest : flat_map f F ≡ [] = listed_filled f (first + 1) [] ranges (λ k. later k) in
    elim (is_filled r) as (λ b. flat_map f (cond b (first ∷ F) F) ≡ []) [
      | true ↦ flat_map-cons f first F ∙ ap (λ l. l ++ flat_map f F) here ∙ rest
      | false ↦ rest
    ]
  where
    here : f first ≡ []
    here = let none : first ≡ first + 0 = omega arith in ap f none ∙ same 0

    later : (k : ℕ) → f (first + 1 + k) ≡ []
    later k = let next : first + 1 + k ≡ first + suc k = omega arith in ap f next ∙ same (suc k)
listed_filled f first (mark ∷ marks) (r ∷ ranges) same =
    by mark (let none : first ≡ first + 0 = omega arith in ap f none ∙ same 0)
    (listed_filled f (first + 1) marks ranges (λ k.
    let next : first + 1 + k ≡ first + suc k = omega arith in ap f next ∙ same (suc k)))
  where
    by : (m : Bool) → f first ≡ cond m (r ∷ []) []
        → flat_map f (filled_from (first + 1) ranges) ≡ filter is_filled (marked_ranges marks ranges)
        → flat_map f (cond (is_filled r) (first ∷ filled_from (first + 1) ranges) (filled_from (first + 1) ranges))
        ≡ filter is_filled (cond m (r ∷ marked_ranges marks ranges) (marked_ranges marks ranges))
    by true here rest =
        let G = filled_from (first + 1) ranges in
        let Q = filter is_filled (marked_ranges marks ranges) in
        elim (is_filled r) as (λ b. flat_map f (cond b (first ∷ G) G) ≡ cond b (r ∷ Q) Q) [
          | true ↦ flat_map-cons f first G ∙ ap (λ l. l ++ flat_map f G) here ∙ ap (λ l. r ∷ l) rest
          | false ↦ rest
        ]
    by false here rest =
        let G = filled_from (first + 1) ranges in
        let Q = filter is_filled (marked_ranges marks ranges) in
        elim (is_filled r) as (λ b. flat_map f (cond b (first ∷ G) G) ≡ Q) [
          | true ↦ flat_map-cons f first G ∙ ap (λ l. l ++ flat_map f G) here ∙ rest
          | false ↦ rest
        ]

any_filter : (P : Range → Type 0) → ((r : Range) → P r → ¬ IsEmpty r) → (rs : List Range) → Any P rs
    → Any P (filter is_filled rs)
any_filter P some [] a = a
any_filter P some (r ∷ rs) a = elim (Any-cases P r rs a) [
  | inl here ↦ rw (before_unless_empty r (some r here)) (Any-first P r (filter is_filled rs) here)
  | inr later ↦
      let rest = any_filter P some rs later in
      elim (is_filled r) as (λ b. Any P (cond b (r ∷ filter is_filled rs) (filter is_filled rs))) [
        | true ↦ Any-later P r (filter is_filled rs) rest
        | false ↦ rest
      ]
]

any_filtered : (P : Range → Type 0) (rs : List Range) → Any P (filter is_filled rs) → Any P rs
any_filtered P [] a = a
any_filtered P (r ∷ rs) a =
    elim (is_filled r) as (λ b. Any P (cond b (r ∷ filter is_filled rs) (filter is_filled rs)) → Any P (r ∷ rs)) [
      | true ↦ λ there. elim (Any-cases P r (filter is_filled rs) there) [
        | inl here ↦ Any-first P r rs here
        | inr later ↦ Any-later P r rs (any_filtered P rs later)
      ]
      | false ↦ λ there. Any-later P r rs (any_filtered P rs there)
    ] a

count_filter : (rs : List Range) → filled_count (filter is_filled rs) ≡ filled_count rs
count_filter [] = refl
count_filter (r ∷ rs) =
    by (is_filled r) refl (count_filter rs) ∙ sym (sum_by-cons (λ x. cond (is_filled x) 1 0) r rs)
  where
    by : (b : Bool) → is_filled r ≡ b → filled_count (filter is_filled rs) ≡ filled_count rs
        → filled_count (cond b (r ∷ filter is_filled rs) (filter is_filled rs)) ≡ cond b 1 0 + filled_count rs
    by true filled rest =
        sum_by-cons (λ x. cond (is_filled x) 1 0) r (filter is_filled rs) ∙ (rw filled (ap (λ n. 1 + n) rest))
    by false empty rest = omega (arith, rest)

-- ranges of which as many aren't empty, and which have the same properties
record HaveSameHeads (rs qs : List Range) : Type 1 where
  there : (P : Range → Type 0) → ((r : Range) → P r → ¬ IsEmpty r) → Any P rs → Any P qs
  back : (P : Range → Type 0) → ((r : Range) → P r → ¬ IsEmpty r) → Any P qs → Any P rs
  count : filled_count rs ≡ filled_count qs

holds_some : (key : List ℕ) (r : Range) → Holds r key → ¬ IsEmpty r
holds_some key r held empty = not_both key r.end held.1 (subst (λ k. IsAtMost k key) empty held.0)

-- what unites the ones unites the others
unites_equal : (us rs qs : List Range) → HaveSameHeads rs qs → Unites us rs → Unites us qs
unites_equal us rs qs equal was =
    let end : (key : List ℕ) → IsEndIn rs key → IsEndIn qs key =
    λ key there. equal.there (λ r. ¬ IsEmpty r × ((r.begin ≡ key) ⊎ (r.end ≡ key))) (λ r e. e.0) there in
    record {
      apart = was.apart;
      holds = λ key bytes. (
        λ held. equal.there (λ r. Holds r key) (holds_some key) ((was.holds key bytes).0 held),
        λ held. (was.holds key bytes).1 (equal.back (λ r. Holds r key) (holds_some key) held),
      );
      ends = All-weaker (λ u. IsEndIn rs u.begin × IsEndIn rs u.end) (λ u. IsEndIn qs u.begin × IsEndIn qs u.end)
          (λ u e. (end u.begin e.0, end u.end e.1)) us was.ends;
      few = omega (arith, was.few, equal.count);
    }

-- what gives nothing may be left out
left_out : {X Y : Type 0} (f : X → List Y) (p : X → Bool) → ((x : X) → p x ≡ false → f x ≡ []) → (xs : List X)
    → flat_map f (filter p xs) ≡ flat_map f xs
left_out f p none [] = refl
left_out f p none (x ∷ xs) = by (left_out f p none xs) (p x) refl ∙ sym (flat_map-cons f x xs)
  where
    by : flat_map f (filter p xs) ≡ flat_map f xs → (b : Bool) → p x ≡ b
        → flat_map f (cond b (x ∷ filter p xs) (filter p xs)) ≡ f x ++ flat_map f xs
    by rest true is = flat_map-cons f x (filter p xs) ∙ ap (λ ys. f x ++ ys) rest
    by rest false is = rest ∙ ap (λ ys. ys ++ flat_map f xs) (sym (none x is))

-- what isn't chosen isn't marked
unchosen : (marks : List Bool) (ranges : List Range) (order : List ℕ) (are : HaveWrittenInOrder ranges marks order) (index : ℕ)
    → are.chosen index ≡ false → marked_at marks ranges index ≡ []
unchosen marks ranges order are index out = by (get_or marks index false) refl
  where
    by : (b : Bool) → get_or marks index false ≡ b → cond b (range_if_some (slice_get ranges index)) [] ≡ []
    by true marked = let both : false ≡ true = sym out ∙ are.all index marked in cc
    by false marked = refl

-- what unites the marked ranges in the order of their begins unites them
pub unites_picked : (marks : List Bool) (ranges : List Range) (order : List ℕ) (us : List Range)
    → HaveWrittenInOrder ranges marks order → Unites us (listed_ranges marks ranges order)
    → Unites us (marked_ranges marks ranges)
unites_picked marks ranges order us are =
    let f = marked_at marks ranges in
    let filled = filter are.chosen (filled_from 0 ranges) in
    let moved = are.in_order.all in
    let all : flat_map f filled ≡ filter is_filled (marked_ranges marks ranges) =
    left_out f are.chosen (unchosen marks ranges order are) (filled_from 0 ranges)
    ∙ listed_filled f 0 marks ranges (λ k. let none : 0 + k ≡ k = omega arith in ap f none) in
    let back = IsPermutation-sym filled order moved in
    unites_equal us (listed_ranges marks ranges order) (marked_ranges marks ranges) (record {
      there = λ P some a. any_filtered P (marked_ranges marks ranges) (subst (Any P) all
          (any_from f P filled (any_moved (λ i. Any P (f i)) order filled back (any_in f P order a))));
      back = λ P some a. any_from f P order (any_moved (λ i. Any P (f i)) filled order moved
          (any_in f P filled (subst (Any P) (sym all) (any_filter P some (marked_ranges marks ranges) a))));
      count = count_in f order ∙ sum_by-IsPermutation (λ i. filled_count (f i)) filled order moved
          ∙ sym (count_in f filled) ∙ ap filled_count all ∙ count_filter (marked_ranges marks ranges);
    })
