-- Single keys of which only those are ranked whose hashes fall into the cells of written ones.
use Rattle.std.proofs.Common.{◌≡◌, ℕ, zero, suc, ◌+◌, ◌<◌, ◌≤◌, Bool, true, false, cond, eqb, not, List, [], ◌∷◌, ◌++◌, length, get_or, map, filter, replicate, refl, sym, ap, subst, ◌∙◌, inl, inr, arith}
use Rattle.std.specs.Prelude.{All, Contains, Option, Some, None, slice_get}
use Rattle.std.specs.Option.{MatchOption}
use Rattle.std.specs.List.{AllZip}
use Rattle.std.specs.List.Sorted.{IsPermutation}
use Rattle.std.proofs.lemmas.Bool.{cases_lt}
use Rattle.std.proofs.lemmas.List.{ext_get_or, get_or-map, get_or-replicate, get_or_past, length-map, length-replicate, length_push}
use Rattle.std.proofs.lemmas.List.Elements.{All-contains, All-cons, All-filter, All-map, All-nil, Contains-append_cases, Contains-get_or, filter_passes}
use Rattle.std.proofs.lemmas.List.Sorted.{All-permutation, Contains-permutation, IsPermutation-filter_both, IsPermutation-sym, length_permutation}
use Rattle.std.proofs.lemmas.Option.{get_or_from_slice_get, slice_get-get_or, slice_get_cases, slice_get_within}
use Rattle.std.proofs.lemmas.Slice.Zip.{AllZip-long}
use Rattle.keys.specs.Hash.{hash_of, AreHashesOf, IsHashOf}
use Rattle.keys.specs.Key.{IsBefore, IsAtMost}
use Rattle.keys.specs.Range.{is_filled, IsEmpty, IsSingle, Meets}
use Rattle.keys.specs.GapRuns.{filled_from, rank, run_or_none, runs_of, AreRanked, HaveBegin, GapRunsView}
use Rattle.keys.specs.Sorting.{begin_at, begin_of, indices_of, AreInBeginOrder}
use Rattle.keys.specs.Numbering.{run_at, IsFilledAt, IsNumbered, OthersStay}
use Rattle.keys.specs.Singles.{counts_at, is_in_cells, is_marked, marked_ranges, AreInCells, AreNumberedAmong, AreRankedFor, HaveInOrder, IsRankedAs, IsSingleAt}
use Rattle.keys.specs.declared.range.Range.{Range}
use Rattle.keys.specs.declared.gap_runs.begin_sort.HeadedIndex.{HeadedIndex}
use Rattle.keys.proofs.callers.KeyOrder.{at_most_antisym, at_most_itself}
use Rattle.keys.proofs.callers.Lists.{AllZip-at}
use Rattle.keys.proofs.callers.Meeting.{meets_by_ends}
use Rattle.keys.proofs.Filled.{empty_if, filled_at, filled_few, filled_in, filled_unless}
use Rattle.keys.proofs.Kept.{not_true}
use Rattle.keys.proofs.Ranked.{begins_first}
use Rattle.keys.proofs.SingleKeys.{before_next, rank_after_key}
use Rattle.keys.proofs.Values.{begin_of_listed, contains_value}

-- two single keys that meet are the same key
up_to : (key single : List ℕ) → IsBefore key (single ++ 0 ∷ []) → IsAtMost key single
up_to key single before = sym (before_next key single) ∙ before

pub same_if_met : (a b : Range) → IsSingle a → IsSingle b → Meets a b → a.begin ≡ b.begin
same_if_met a b first second met =
    let determined = (meets_by_ends a b).0 met in
    at_most_antisym a.begin b.begin (up_to a.begin b.begin (subst (IsBefore a.begin) second determined.2))
    (up_to b.begin a.begin (subst (IsBefore b.begin) first determined.3))

-- a single key isn't an empty range
pub single_filled : (range : Range) → IsSingle range → is_filled range ≡ true
single_filled range single =
    filled_unless range (λ empty. absurd (omega (arith, ap length (empty ∙ single), length_push range.begin 0)))

-- the empty range where another begins
empty_at_begin : Range → Range
empty_at_begin range = record {
  begin = range.begin;
  end = range.begin;
  begin_is_key = range.begin_is_key;
  end_is_key = range.begin_is_key;
  ordered = at_most_itself range.begin;
}

-- what a range is ranked as
pub ranked_in : List Bool → Range → Range
ranked_in cells range = cond (is_in_cells cells (hash_of range.begin)) range (empty_at_begin range)

-- what passes is kept
contains_passed : (p : ℕ → Bool) (xs : List ℕ) (x : ℕ) → Contains xs x → p x ≡ true → Contains (filter p xs) x
contains_passed p xs x has passes =
    let q = λ (y : ℕ). not (p y) in
    elim (Contains-append_cases (filter p xs) (filter q xs) x
    (Contains-permutation xs (filter p xs ++ filter q xs) x (IsPermutation-filter_both p q (λ y. refl) xs) has)) [
      | inl kept ↦ kept
      | inr other ↦
          absurd (not_true (not (p x)) (ap not passes) (All-contains (λ y. q y ≡ true) (filter q xs) x (filter_passes q xs) other))
    ]

filter_few : (p : ℕ → Bool) (xs : List ℕ) → length (filter p xs) ≤ length xs
filter_few p [] = omega arith
filter_few p (x ∷ xs) =
    let rest = filter_few p xs in
    elim (p x) as (λ b. length (cond b (x ∷ filter p xs) (filter p xs)) ≤ length (x ∷ xs)) [
      | true ↦ omega (arith, rest)
      | false ↦ omega (arith, rest)
    ]

pub chosen_listed_few : (p : ℕ → Bool) (ranges : List Range) (headed : List HeadedIndex)
    → indices_of headed ≡ filter p (filled_from 0 ranges) → length headed ≤ length ranges
chosen_listed_few p ranges headed is = omega (
  arith,
  filter_few p (filled_from 0 ranges),
  filled_few 0 ranges,
  ap length is,
  length-map {B = ℕ} headed (λ h. h.index),
)

-- the ranges listed are chosen ones
module _ (p : ℕ → Bool) (ranges : List Range) (headed : List HeadedIndex)
    (moved : IsPermutation (filter p (filled_from 0 ranges)) (indices_of headed)) where
  abbrev chosen : List ℕ
  chosen = filter p (filled_from 0 ranges)

  -- there are no more of them than ranges
  pub chosen_few : length headed ≤ length ranges
  chosen_few = omega (
    arith,
    filter_few p (filled_from 0 ranges),
    filled_few 0 ranges,
    length_permutation chosen (indices_of headed) moved,
    length-map {B = ℕ} headed (λ h. h.index),
  )

  filled_listed_at : All (IsFilledAt ranges) (indices_of headed)
  filled_listed_at =
      All-permutation (IsFilledAt ranges) chosen (indices_of headed) moved
      (All-filter p (IsFilledAt ranges) (filled_from 0 ranges)
      (λ k d lt. filled_at ranges (get_or (filled_from 0 ranges) k d) (Contains-get_or (filled_from 0 ranges) k d lt)))

  -- their indices are below the number of the ranges
  pub chosen_within : (n : ℕ) → n ≡ length ranges → All (λ h. h.index < n) headed
  chosen_within n is = λ k d lt.
      let h = get_or headed k d in
      let filled = All-contains (IsFilledAt ranges) (indices_of headed) h.index filled_listed_at
      (contains_value (λ (x : HeadedIndex). x.index) headed h (Contains-get_or headed k d lt)) in
      omega (arith, slice_get_within ranges h.index filled.0 filled.1, is)

  pub chosen_single : All IsSingle ranges → All (IsSingleAt ranges) (indices_of headed)
  chosen_single singles = λ k d lt.
      let found = filled_listed_at k d lt in (
        found.0,
        found.1,
        subst IsSingle (get_or_from_slice_get ranges (get_or (indices_of headed) k d) found.0 found.0 found.1)
            (singles (get_or (indices_of headed) k d) found.0
            (slice_get_within ranges (get_or (indices_of headed) k d) found.0 found.1)),
      )

-- what holds of each range that is marked holds of those picked
all_picked : (P : Range → Type 0) (marks : List Bool) (ranges : List Range)
    → ((index : ℕ) (range : Range) → slice_get ranges index ≡ Some range → is_marked marks index ≡ true → P range)
    → All P (marked_ranges marks ranges)
all_picked P [] ranges holds = All-nil P
all_picked P (mark ∷ marks) [] holds = All-nil P
all_picked P (mark ∷ marks) (range ∷ ranges) holds =
    let rest = all_picked P marks ranges (λ index other at marked. holds (suc index) other at marked) in
    elim mark as (λ b. mark ≡ b → All P (cond b (range ∷ marked_ranges marks ranges) (marked_ranges marks ranges))) [
      | true ↦ λ marked. All-cons P range (marked_ranges marks ranges) (holds 0 range refl marked) rest
      | false ↦ λ unmarked. rest
    ] refl

hash_is : (range : Range) (found : Option ℕ) → IsSingle range → IsHashOf range found
    → Some found ≡ Some (Some (hash_of range.begin))
hash_is range None single is = absurd (is single)
hash_is range (Some hash) single is = ap (λ n. Some (Some n)) is.1

-- the ranges are single keys with these hashes
module _ (ranges : List Range) (hashes : List (Option ℕ)) (singles : All IsSingle ranges)
    (hashed : AreHashesOf ranges hashes) where
  pub single_at : (index : ℕ) (range : Range) → slice_get ranges index ≡ Some range → IsSingle range
  single_at index range at =
      subst IsSingle (get_or_from_slice_get ranges index range range at)
      (singles index range (slice_get_within ranges index range at))

  pub as_many_hashes : length hashes ≡ length ranges
  as_many_hashes = elim hashed [
    | inl (none, others) ↦ ap length none ∙ no_ranges ranges singles others
    | inr all ↦ AllZip-long IsHashOf ranges hashes all
  ]
    where
      no_ranges : (rs : List Range) → All IsSingle rs → All (λ range. ¬ IsSingle range) rs → 0 ≡ length rs
      no_ranges [] all none = refl
      no_ranges (r ∷ rs) all none = absurd (none 0 r (omega arith) (all 0 r (omega arith)))

  pub hash_at : (index : ℕ) (range : Range) → slice_get ranges index ≡ Some range
      → slice_get hashes index ≡ Some (Some (hash_of range.begin))
  hash_at index range at = elim hashed [
    | inl (none, others) ↦
        absurd (subst (λ (r : Range). ¬ IsSingle r) (get_or_from_slice_get ranges index range range at)
        (others index range (slice_get_within ranges index range at)) (single_at index range at))
    | inr all ↦
        let within : index < length hashes = omega (arith, slice_get_within ranges index range at, as_many_hashes) in
        slice_get-get_or hashes index None within
        ∙ hash_is range (get_or hashes index None) (single_at index range at)
        (AllZip-at IsHashOf ranges hashes index range None at all)
  ]

  module _ (cells marks : List Bool) (many : length marks ≡ length ranges) (in_cells : AreInCells cells marks hashes) where
    in_cell : (index : ℕ) (range : Range) → slice_get ranges index ≡ Some range → is_marked marks index ≡ true
        → is_in_cells cells (hash_of range.begin) ≡ true
    in_cell index range at marked = in_cells index (hash_of range.begin) marked (hash_at index range at)

    -- a range outside the cells meets none of those that are marked
    ranked_by : (range : Range) (b : Bool) → IsSingle range → is_in_cells cells (hash_of range.begin) ≡ b
        → IsRankedAs (marked_ranges marks ranges) range (cond b range (empty_at_begin range))
    unfolding empty_at_begin
    ranked_by range true single e = inl refl
    ranked_by range false single e =
        inr (
          refl,
          all_picked (λ other. ¬ Meets range other) marks ranges (λ index other at marked met.
              let same = same_if_met range other single (single_at index other at) met in
              not_true (is_in_cells cells (hash_of other.begin))
              (ap (λ key. is_in_cells cells (hash_of key)) (sym same) ∙ e) (in_cell index other at marked)),
        )

    pub each_ranked : All (λ range. IsRankedAs (marked_ranges marks ranges) range (ranked_in cells range)) ranges
    unfolding ranked_in
    each_ranked k d lt =
        let range = get_or ranges k d in
        ranked_by range (is_in_cells cells (hash_of range.begin)) (singles k d lt) refl

    pub ranked_itself : All (λ range. ranked_in cells range ≡ range) (marked_ranges marks ranges)
    unfolding ranked_in
    ranked_itself =
        all_picked (λ range. ranked_in cells range ≡ range) marks ranges (λ index range at marked.
        ap (λ b. cond b range (empty_at_begin range)) (in_cell index range at marked))

    counts_if_in : (index : ℕ) (range : Range) (b : Bool) → slice_get ranges index ≡ Some range
        → is_in_cells cells (hash_of range.begin) ≡ b → counts_at cells ranges index ≡ b
    counts_if_in index range b at determined = ap (λ found. is_in_cells cells (hash_of (begin_of found))) at ∙ determined

    marked_counts : (index : ℕ) → is_marked marks index ≡ true → counts_at cells ranges index ≡ true
    marked_counts index marked = elim ((slice_get_cases ranges index).1) [
      | inl (range, short, at, there) ↦ counts_if_in index range true at (in_cell index range at marked)
      | inr (past, none) ↦
          absurd (not_true (is_marked marks index) (get_or_past marks index false (omega (arith, past, many))) marked)
    ]

    -- those that count are listed in the order of their begins
    module _ (headed : List HeadedIndex) (sorted : AreInBeginOrder ranges headed)
        (moved : IsPermutation (filter (counts_at cells ranges) (filled_from 0 ranges)) (indices_of headed)) where
      pub have_in_order : HaveInOrder (is_marked marks) ranges (indices_of headed)
      have_in_order = record {
        listed = counts_at cells ranges;
        in_order = record { in_order = begins_first ranges headed sorted; all = moved };
        all = marked_counts;
      }

      listed : (index : ℕ) (range : Range) → slice_get ranges index ≡ Some range
          → is_in_cells cells (hash_of range.begin) ≡ true → Contains (indices_of headed) index
      listed index range at determined =
          Contains-permutation (filter (counts_at cells ranges) (filled_from 0 ranges)) (indices_of headed) index moved
          (contains_passed (counts_at cells ranges) (filled_from 0 ranges) index
          (filled_in ranges index (range, at, single_filled range (single_at index range at)))
          (counts_if_in index range true at determined))

      listed_counts : (index : ℕ) → Contains (indices_of headed) index → counts_at cells ranges index ≡ true
      listed_counts index has =
          All-contains (λ i. counts_at cells ranges i ≡ true) (filter (counts_at cells ranges) (filled_from 0 ranges)) index
          (filter_passes (counts_at cells ranges) (filled_from 0 ranges))
          (Contains-permutation (indices_of headed) (filter (counts_at cells ranges) (filled_from 0 ranges)) index
          (IsPermutation-sym (filter (counts_at cells ranges) (filled_from 0 ranges)) (indices_of headed) moved) has)

      module _ (keys : List (List ℕ)) (total : ℕ) (before runs : List (ℕ × ℕ))
          (numbered : AreNumberedAmong ranges headed keys total runs) (none : before ≡ replicate (length ranges) (0, 0))
          (count : length runs ≡ length before) (others : OthersStay headed before runs) where
        -- the key of a range that counts is one of the keys
        has_key : (index : ℕ) (range : Range) → slice_get ranges index ≡ Some range
            → is_in_cells cells (hash_of range.begin) ≡ true → Contains keys range.begin
        has_key index range at determined =
            let begin : begin_at ranges index ≡ range.begin = ap begin_of at in
            subst (Contains keys) begin (numbered.has_begins (begin_at ranges index)
            (begin_of_listed ranges headed index (listed index range at determined)))

        begin_by : (index : ℕ) (range : Range) (b : Bool) → slice_get ranges index ≡ Some range
            → is_in_cells cells (hash_of range.begin) ≡ b → HaveBegin keys (cond b range (empty_at_begin range))
        unfolding empty_at_begin
        begin_by index range true at determined filled = has_key index range at determined
        begin_by index range false at determined filled = absurd (filled refl)

        pub have_begins : All (HaveBegin keys) (map (ranked_in cells) ranges)
        unfolding ranked_in
        have_begins = All-map (HaveBegin keys) (ranked_in cells) ranges (λ k d lt.
            let range = get_or ranges k d in
            begin_by k range (is_in_cells cells (hash_of range.begin)) (slice_get-get_or ranges k d lt) refl)

        run_by : (index : ℕ) (range : Range) (b : Bool) → slice_get ranges index ≡ Some range
            → is_in_cells cells (hash_of range.begin) ≡ b
            → run_at runs index ≡ run_or_none keys (cond b range (empty_at_begin range))
        unfolding empty_at_begin
        run_by index range true at determined =
            let single = single_at index range at in
            let filled = single_filled range single in
            let begin : begin_at ranges index ≡ range.begin = ap begin_of at in
            let following = rank_after_key keys range.begin numbered.rising (has_key index range at determined) in
            let own : (rank keys (begin_at ranges index), rank keys (begin_at ranges index) + 1)
            ≡ (rank keys range.begin, rank keys range.end) =
            ap (λ (key : List ℕ). (rank keys key, rank keys key + 1)) begin
            ∙ ap (λ n. (rank keys range.begin, n)) (sym following ∙ ap (rank keys) (sym single)) in
            All-contains (IsNumbered ranges keys runs) (indices_of headed) index numbered.numbers
            (listed index range at determined)
            ∙ own ∙ sym (ap (λ b. cond b (rank keys range.begin, rank keys range.end) (0, 0)) filled)
        run_by index range false at determined =
            let empty : is_filled (empty_at_begin range) ≡ false = empty_if (empty_at_begin range) refl in
            others index (λ has.
            not_true (counts_at cells ranges index) (counts_if_in index range false at determined) (listed_counts index has))
            ∙ ap (λ rs. run_at rs index) none
            ∙ get_or-replicate (length ranges) index (0, 0) (0, 0) (slice_get_within ranges index range at)
            ∙ sym (ap (λ b. cond b (rank keys range.begin, rank keys range.begin) (0, 0)) empty)

        pub are_runs : runs ≡ runs_of keys (map (ranked_in cells) ranges)
        unfolding ranked_in
        are_runs =
            let long : length runs ≡ length ranges = count ∙ ap length none ∙ length-replicate (length ranges) (0, 0) in
            let first = length-map ranges (ranked_in cells) in
            ext_get_or (0, 0) runs (runs_of keys (map (ranked_in cells) ranges))
            (long ∙ sym first ∙ sym (length-map (map (ranked_in cells) ranges) (run_or_none keys)))
            (λ i lt. elim ((slice_get_cases ranges i).1) [
              | inl (range, short, at, there) ↦
                  run_by i range (is_in_cells cells (hash_of range.begin)) at refl
                  ∙ ap (λ (r : Range). run_or_none keys (ranked_in cells r)) (sym there)
                  ∙ ap (run_or_none keys) (sym (get_or-map (ranked_in cells) ranges i range (ranked_in cells range) short))
                  ∙ sym (get_or-map (run_or_none keys) (map (ranked_in cells) ranges) i (ranked_in cells range) (0, 0)
                  (omega (arith, short, first)))
              | inr (past, none) ↦ absurd (omega (arith, lt, long, past))
            ])

-- ranks of all ranges are ranks for any of them
map_itself : (ranges : List Range) → map (λ (range : Range). range) ranges ≡ ranges
map_itself [] = refl
map_itself (range ∷ ranges) = ap (λ rs. range ∷ rs) (map_itself ranges)

pub ranked_for : (written ranges : List Range) (ranks : GapRunsView) → AreRanked ranges ranks
    → AreRankedFor written ranges ranks
ranked_for written ranges ranks are = record {
  ranked_as = λ range. range;
  keys = are.keys;
  rising = are.are_begins.rising;
  count = are.count;
  have_begins = subst (All (HaveBegin are.keys)) (sym (map_itself ranges)) are.are_begins.all;
  are_runs = are.are_runs ∙ ap (runs_of are.keys) (sym (map_itself ranges));
  each = λ k d lt. inl refl;
  itself = λ k d lt. refl;
}

-- ranges with hashes are single keys
single_of : (range : Range) (found : Option ℕ) → (found ≡ None → ⊥) → IsHashOf range found → IsSingle range
single_of range None some is = absurd (some refl)
single_of range (Some hash) some is = is.0

pub all_single_if : (ranges : List Range) (hashes : List (Option ℕ)) → 0 < length hashes
    → ((k : ℕ) → k < length hashes → get_or hashes k None ≡ None → ⊥) → AreHashesOf ranges hashes → All IsSingle ranges
all_single_if ranges hashes some each hashed = λ k d lt. elim hashed [
  | inl (none, others) ↦ absurd (omega (arith, some, ap length none))
  | inr all ↦
      let range = get_or ranges k d in
      single_of range (get_or hashes k None) (each k (omega (arith, lt, AllZip-long IsHashOf ranges hashes all)))
      (AllZip-at IsHashOf ranges hashes k range None (slice_get-get_or ranges k d lt) all)
]

-- the hash at one more index is in the cells
pub cells_more : (marks : List Bool) (hashes : List (Option ℕ)) (i : ℕ) (old new : List Bool)
    → ((own : ℕ) → get_or hashes i None ≡ Some own → is_marked marks i ≡ true → is_in_cells new own ≡ true)
    → ((other : ℕ) → is_in_cells old other ≡ true → is_in_cells new other ≡ true)
    → ((index hash : ℕ) → index < i → is_marked marks index ≡ true → slice_get hashes index ≡ Some (Some hash)
    → is_in_cells old hash ≡ true)
    → (index hash : ℕ) → index < i + 1 → is_marked marks index ≡ true → slice_get hashes index ≡ Some (Some hash)
    → is_in_cells new hash ≡ true
cells_more marks hashes i old new here stay before index hash below marked at = elim (cases_lt index i) [
  | inl lower ↦ stay hash (before index hash lower marked at)
  | inr upper ↦
      let same : index ≡ i = omega (arith, below, upper) in
      here hash
      (ap (λ n. get_or hashes n None) (sym same) ∙ get_or_from_slice_get hashes index (Some hash) None at)
      (ap (is_marked marks) (sym same) ∙ marked)
]

-- some hash is there
pub some_hash : (hashes : List (Option ℕ)) (b : Bool) → b ≡ eqb (length hashes) 0 → not b ≡ true → 0 < length hashes
some_hash [] b is determined = absurd (not_true (not b) (ap not is) determined)
some_hash (hash ∷ hashes) b is determined = omega arith
