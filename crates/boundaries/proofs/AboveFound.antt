-- Where the function is above a number in a range.
use Rattle.std.proofs.Common.{◌≡◌, ℕ, zero, suc, ◌+◌, ◌-◌, ◌<◌, ◌≤◌, true, false, not, List, [], ◌∷◌, ◌++◌, length, get_or, take, drop, sym, ◌∙◌, ap, subst, inl, inr, ◌⊎◌, arith, take-append-drop}
use Rattle.std.specs.Prelude.{ℤ, negsuc, ◌≤ℤ◌, ◌<ℤ◌, All, Any, slice_range}
use Rattle.std.proofs.lemmas.Int.{ints}
use Rattle.std.proofs.lemmas.List.{drop-take, length-take-le}
use Rattle.std.proofs.lemmas.List.Folds.{drop_split}
use Rattle.std.proofs.lemmas.List.Elements.{All-head, All-take, All-drop, filter_passes, All-weaker}
use Rattle.keys.specs.Key.{IsBytes, IsKey, is_before, IsBefore}
use Rattle.keys.specs.Range.{Holds, IsEmpty}
use Rattle.keys.specs.declared.range.Range.{Range}
use Rattle.keys.proofs.callers.KeyOrder.{
  at_most_before,
  at_most_trans,
  before_at_most_same,
  at_most_itself,
  not_before_itself,
}
use Rattle.keys.proofs.callers.Booleans.{true_or_false}
use Rattle.boundaries.specs.Boundary.{
  Boundary,
  AreBoundaries,
  RiseFrom,
  value_at,
  value_from,
  last_version,
  below,
  from_on,
}
use Rattle.boundaries.proofs.Indexes.{up_to, after}
use Rattle.keys.proofs.callers.KeyOrder.{not_before_if}
use Rattle.boundaries.proofs.callers.Order.{Rising, rising_from, rising_in_order, rising_filter, rise_above}
use Rattle.boundaries.proofs.callers.Values.{FirstAfter, first_after_all, value_after, value_front, value_back}
use Rattle.boundaries.proofs.callers.WritingValues.{begins_before_end}
use Rattle.keys.proofs.callers.SomeElement.{Any-first, Any-later}
use Rattle.boundaries.proofs.callers.LeftFrom.{filter_shorter}

index_is : (xs ys : List Boundary) (i : ℕ) → i ≤ length xs → take i xs ≡ ys → i ≡ length ys
index_is xs ys i le e = sym (length-take-le i xs le) ∙ ap length e

-- the value at a boundary's own key is its version
pub value_own : (v : ℤ) (bs : List Boundary) (k : ℕ) (d : Boundary) → Rising bs → k < length bs
    → value_from v bs (get_or bs k d).key ≡ (get_or bs k d).version
value_own v [] k d r lt = absurd (omega arith)
value_own v (b ∷ bs) zero d r lt =
    rw (not_before_itself b.key) (value_after b.version bs b.key (first_own b bs r))
  where
    first_own : (b : Boundary) (bs : List Boundary) → RiseFrom b.key bs → FirstAfter b.key bs
    first_own b [] r = tt
    first_own b (c ∷ cs) r = r.0
value_own v (b ∷ bs) (suc k) d r lt =
    let later =
    not_before_if b.key (get_or bs k d).key
    (before_at_most_same b.key (get_or bs k d).key (rise_above b.key bs r k d (omega arith))) in
    rw later (value_own b.version bs k d (rising_from b.key bs r) (omega arith))

take_rising : (n : ℕ) (bs : List Boundary) → Rising bs → Rising (take n bs)
take_rising zero bs r = tt
take_rising (suc n) [] r = tt
take_rising (suc n) (b ∷ bs) r = take_rise n b.key bs r
  where
    take_rise : (n : ℕ) (k : List ℕ) (bs : List Boundary) → RiseFrom k bs → RiseFrom k (take n bs)
    take_rise zero k bs r = tt
    take_rise (suc n) k [] r = tt
    take_rise (suc n) k (b ∷ bs) r = (r.0, take_rise n b.key bs r.1)

-- a value above a number is the one before, or that of some boundary
value_some : (s v : ℤ) (bs : List Boundary) (key : List ℕ) → s <ℤ value_from v bs key
    → (s <ℤ v) ⊎ Any (λ b. s <ℤ b.version) bs
value_some s v [] key l = inl l
value_some s v (b ∷ bs) key l =
    elim (true_or_false (is_before key b.key)) [
      | inl t ↦ let k : s <ℤ v = rw t at l in inl k
      | inr f ↦
          let k : s <ℤ value_from b.version bs key = rw f at l in
          elim (value_some s b.version bs key k) [
            | inl own ↦ inr (Any-first (λ b. s <ℤ b.version) b bs own)
            | inr a ↦ inr (Any-later (λ b. s <ℤ b.version) b bs a)
          ]
    ]

-- where the search for the greatest value looks: after the range's begin and before its end
pub record IsInside (range : Range) (bs : List Boundary) (from to : ℕ) : Type 0 where
  pub from_in : from ≤ length bs
  pub to_in : to ≤ length bs
  pub front : take from bs ≡ up_to range.begin bs
  pub later : drop from bs ≡ after range.begin bs
  pub sooner : take to bs ≡ below range.end bs
  pub back : drop to bs ≡ from_on range.end bs

module _ (range : Range) (filled : ¬ IsEmpty range) (bs : List Boundary) (h : AreBoundaries bs) (from to : ℕ)
    (i : IsInside range bs from to) where
  pub inside_ordered : from ≤ to
  inside_ordered =
      let l = begins_before_end range filled in
      let a = index_is bs (up_to range.begin bs) from i.from_in i.front in
      let b = index_is bs (below range.end bs) to i.to_in i.sooner in
      let c = filter_shorter (λ b. not (is_before range.begin b.key)) (λ b. is_before b.key range.end)
      (λ b h. at_most_before b.key range.begin range.end h l) bs in
      omega arith

  inside_later : All (λ b. IsBefore range.begin b.key) (slice_range bs from to)
  inside_later =
      All-take (λ b. IsBefore range.begin b.key) (to - from) (drop from bs)
      (subst (All (λ b. IsBefore range.begin b.key)) (sym i.later)
      (filter_passes (λ b. is_before range.begin b.key) bs))

  inside_sooner : All (λ b. IsBefore b.key range.end) (slice_range bs from to)
  inside_sooner =
      let le = inside_ordered in
      let e : from + (to - from) ≡ to = omega arith in
      let is : drop from (take to bs) ≡ slice_range bs from to =
      ap (λ n. drop from (take n bs)) (sym e) ∙ drop-take from (to - from) bs in
      subst (All (λ b. IsBefore b.key range.end)) is
      (All-drop (λ b. IsBefore b.key range.end) from (take to bs)
      (subst (All (λ b. IsBefore b.key range.end)) (sym i.sooner)
      (filter_passes (λ b. is_before b.key range.end) bs)))

  inside_rising : Rising (slice_range bs from to)
  inside_rising =
      take_rising (to - from) (drop from bs)
      (subst Rising (sym i.later)
      (rising_filter (λ b. is_before range.begin b.key) bs (rising_in_order bs h.in_order)))

  inside_keys : All (λ b. IsKey b.key) (slice_range bs from to)
  inside_keys =
      All-take (λ b. IsKey b.key) (to - from) (drop from bs) (All-drop (λ b. IsKey b.key) from bs h.keys)

  parts : bs ≡ take from bs ++ (slice_range bs from to ++ drop to bs)
  parts = sym (take-append-drop from bs)
      ∙ ap (λ xs. take from bs ++ xs) (drop_split bs from to inside_ordered)

  -- a value in the range
  value_inside : (key : List ℕ) → Holds range key
      → value_at bs key ≡ value_from (last_version (negsuc 0) (take from bs)) (slice_range bs from to) key
  value_inside key held =
      let ahead : All (λ b. is_before key b.key ≡ false) (take from bs) =
      subst (All (λ b. is_before key b.key ≡ false)) (sym i.front)
      (All-weaker (λ b. not (is_before range.begin b.key) ≡ true) (λ b. is_before key b.key ≡ false)
      (λ b le. not_before_if b.key key (at_most_trans b.key range.begin key le held.0))
      (up_to range.begin bs) (filter_passes (λ b. not (is_before range.begin b.key)) bs)) in
      let past : FirstAfter key (drop to bs) =
      subst (FirstAfter key) (sym i.back)
      (first_after_all range.end key (from_on range.end bs)
      (filter_passes (λ b. not (is_before b.key range.end)) bs) held.1) in
      ap (λ xs. value_at xs key) parts
      ∙ value_back (negsuc 0) (take from bs) (slice_range bs from to ++ drop to bs) key ahead
      ∙ value_front (last_version (negsuc 0) (take from bs)) (slice_range bs from to) (drop to bs) key past

  -- the function is above the number at the range's begin, or at some boundary inside, or nowhere in the range
  module _ (v s : ℤ) (first : v ≡ last_version (negsuc 0) (take from bs)) where
    pub above_at_begin : s <ℤ v → (key : List ℕ) × IsBytes key × Holds range key × (s <ℤ value_at bs key)
    above_at_begin l =
        let held : Holds range range.begin = (at_most_itself range.begin, begins_before_end range filled) in
        let is : value_at bs range.begin ≡ v =
        value_inside range.begin held
        ∙ value_after (last_version (negsuc 0) (take from bs)) (slice_range bs from to) range.begin
        (first_after (slice_range bs from to) inside_later) ∙ sym first in
        (range.begin, range.begin_is_key.bytes, held, subst (λ (x : ℤ). s <ℤ x) (sym is) l)
      where
        first_after : (ys : List Boundary) → All (λ b. IsBefore range.begin b.key) ys
            → FirstAfter range.begin ys
        first_after [] a = tt
        first_after (y ∷ ys) a = All-head (λ b. IsBefore range.begin b.key) y ys a

    pub above_inside : Any (λ b. s <ℤ b.version) (slice_range bs from to)
        → (key : List ℕ) × IsBytes key × Holds range key × (s <ℤ value_at bs key)
    above_inside a =
        let ys = slice_range bs from to in
        let k = a.0 in
        let b = get_or ys k a.1 in
        let lt : k < length ys = a.2 in
        let held : Holds range b.key =
        (before_at_most_same range.begin b.key (inside_later k a.1 lt), inside_sooner k a.1 lt) in
        let is : value_at bs b.key ≡ b.version =
        value_inside b.key held
        ∙ value_own (last_version (negsuc 0) (take from bs)) ys k a.1 inside_rising lt in
        let own : b.version ≡ a.1.version = ap (λ (x : Boundary). x.version) a.3 in
        (b.key, (inside_keys k a.1 lt).bytes, held, subst (λ (x : ℤ). s <ℤ x) (sym (is ∙ own)) a.4)

    pub above_found : (key : List ℕ) → Holds range key → s <ℤ value_at bs key → v ≤ℤ s
        → Any (λ b. s <ℤ b.version) (slice_range bs from to)
    above_found key held lt le =
        let above =
        subst (λ (x : ℤ). s <ℤ x) (value_inside key held
        ∙ ap (λ x. value_from x (slice_range bs from to) key) (sym first)) lt in
        elim (value_some s v (slice_range bs from to) key above) [
          | inl l ↦ absurd
              (omega (arith, ints))
          | inr b ↦ b
        ]
