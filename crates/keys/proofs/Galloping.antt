-- The first of the ranges that doesn't begin below an end, sought by steps that double and then between the last two.
use Rattle.std.proofs.Common.{◌≡◌, ℕ, ◌+◌, ◌-◌, ◌<◌, ◌≤◌, true, false, List, length, get_or, take, drop, sym, ap, subst, ◌∙◌, inl, inr, arith, not, length-drop, length-take, get_or-drop}
use Rattle.std.specs.Prelude.{All}
use Rattle.std.specs.List.Sorted.{IsPartitionedBy, IsPartitionPoint}
use Rattle.std.proofs.lemmas.Bool.{cases_lt}
use Rattle.std.proofs.lemmas.List.{get_or_default, get_or-take}
use Rattle.keys.specs.Key.{is_before, IsBefore, IsAtMost}
use Rattle.keys.specs.declared.range.Range.{Range}
use Rattle.keys.specs.declared.gap_runs.begin_sort.HeadedIndex.{HeadedIndex}
use Rattle.keys.specs.Sorting.{begin_at, AreInBeginOrder}
use Rattle.keys.proofs.callers.KeyOrder.{at_most_before, at_most_trans}
use Rattle.keys.proofs.Sorting.{no_headed}
use Rattle.keys.specs.Numbering.{begins_below_end, HeadsDetermine}
use Rattle.keys.proofs.EndHeads.{determined_same}
use Rattle.keys.proofs.Reaching.{begins_rise, AreSplit}

-- a range before one that begins below the end does so too
below_before : (ranges : List Range) (headed : List HeadedIndex) (end : List ℕ) (i j : ℕ) (d : HeadedIndex)
    → AreInBeginOrder ranges headed → i ≤ j → j < length headed
    → IsBefore (begin_at ranges (get_or headed j d).index) end
    → IsBefore (begin_at ranges (get_or headed i d).index) end
below_before ranges headed end i j d sorted le lt below =
    at_most_before (begin_at ranges (get_or headed i d).index) (begin_at ranges (get_or headed j d).index) end
    (begins_rise ranges headed i j d sorted le lt) below

-- a step further
pub steps_more : (ranges : List Range) (headed : List HeadedIndex) (end : List ℕ) (m : ℕ)
    → AreInBeginOrder ranges headed → 0 < m → m ≤ length headed
    → IsBefore (begin_at ranges (get_or headed (m - 1) no_headed).index) end
    → All (λ h. IsBefore (begin_at ranges h.index) end) (take m headed)
steps_more ranges headed end m sorted some within below = λ k d lt.
    let short : k < m = omega (arith, length-take m headed) in
    subst (λ (h : HeadedIndex). IsBefore (begin_at ranges h.index) end)
    (get_or_default headed k no_headed d (omega arith) ∙ sym (get_or-take m headed k d short))
    (below_before ranges headed end k (m - 1) no_headed sorted (omega arith) (omega arith) below)

-- an element of a part
part_at : (headed : List HeadedIndex) (from count k : ℕ) (d : HeadedIndex) → k < length (take count (drop from headed))
    → get_or (take count (drop from headed)) k d ≡ get_or headed (from + k) d
part_at headed from count k d lt =
    get_or-take count (drop from headed) k d (omega (arith, length-take count (drop from headed)))
    ∙ get_or-drop from headed k d

part_within : (headed : List HeadedIndex) (from count k : ℕ) → k < length (take count (drop from headed))
    → from + k < length headed
part_within headed from count k lt = omega (arith, length-take count (drop from headed), length-drop from headed)

-- a part is in the order of the begins too
pub part_sorted : (ranges : List Range) (headed : List HeadedIndex) (from count : ℕ) → AreInBeginOrder ranges headed
    → AreInBeginOrder ranges (take count (drop from headed))
part_sorted ranges headed from count sorted k d low lt =
    let next : from + (k + 1) ≡ from + k + 1 = omega arith in
    let before = λ (a b : HeadedIndex). is_before (begin_at ranges a.index) (begin_at ranges b.index) ≡ false in
    subst (λ (h : HeadedIndex). before h (get_or (take count (drop from headed)) k d))
    (sym (part_at headed from count (k + 1) d lt ∙ ap (λ n. get_or headed n d) next))
    (subst (before (get_or headed (from + k + 1) d)) (sym (part_at headed from count k d (omega arith)))
    (sorted (from + k) d (omega arith) (omega (arith, part_within headed from count (k + 1) lt))))

-- in a part too no range that begins below the end comes after one that doesn't
pub part_split : (ranges : List Range) (headed : List HeadedIndex) (end : List ℕ) (from count : ℕ)
    → AreInBeginOrder ranges headed
    → IsPartitionedBy (λ (h : HeadedIndex). is_before (begin_at ranges h.index) end) (take count (drop from headed))
part_split ranges headed end from count sorted i j d le lt below =
    subst (λ (h : HeadedIndex). IsBefore (begin_at ranges h.index) end) (sym (part_at headed from count i d (omega arith)))
    (below_before ranges headed end (from + i) (from + j) d sorted (omega arith)
    (part_within headed from count j lt)
    (subst (λ (h : HeadedIndex). IsBefore (begin_at ranges h.index) end) (part_at headed from count j d lt) below))

-- if heads determine the order of all ranges, they determine it in a part
module _ (ranges : List Range) (headed : List HeadedIndex) (end : List ℕ) (head from count : ℕ)
    (determine : All (HeadsDetermine ranges end head) headed) where
  abbrev part : List HeadedIndex
  part = take count (drop from headed)

  determined_at : (k : ℕ) (d : HeadedIndex) → k < length part
      → begins_below_end ranges end head (get_or part k d) ≡ is_before (begin_at ranges (get_or part k d).index) end
  determined_at k d lt =
      determined_same ranges end head (get_or part k d)
      (subst (HeadsDetermine ranges end head) (sym (part_at headed from count k d lt))
      (determine (from + k) d (part_within headed from count k lt)))

  pub determined_split : AreInBeginOrder ranges headed → IsPartitionedBy (begins_below_end ranges end head) part
  determined_split sorted i j d le lt below =
      determined_at i d (omega arith) ∙ part_split ranges headed end from count sorted i j d le lt (sym (determined_at j d lt) ∙ below)

  pub determined_point : (i : ℕ) → i ≤ length part
      → IsPartitionPoint (λ h. begins_below_end ranges end head h ≡ true) (λ h. begins_below_end ranges end head h ≡ false) part i
      → IsPartitionPoint (λ (h : HeadedIndex). is_before (begin_at ranges h.index) end ≡ true)
      (λ h. is_before (begin_at ranges h.index) end ≡ false) part i
  determined_point i few point = (
    λ j d low lt. sym (determined_at j d (omega arith)) ∙ point.0 j d low lt,
    λ j d low lt. sym (determined_at j d lt) ∙ point.1 j d low lt,
  )

-- the place in the part is that in the entire list
pub entire_split : (ranges : List Range) (headed : List HeadedIndex) (end : List ℕ) (from last i : ℕ)
    → AreInBeginOrder ranges headed → from ≤ last → last ≤ length headed
    → All (λ h. IsBefore (begin_at ranges h.index) end) (take from headed)
    → (last < length headed → IsAtMost end (begin_at ranges (get_or headed last no_headed).index))
    → i ≤ length (take (last - from) (drop from headed))
    → IsPartitionPoint (λ (h : HeadedIndex). is_before (begin_at ranges h.index) end ≡ true)
    (λ h. is_before (begin_at ranges h.index) end ≡ false) (take (last - from) (drop from headed)) i
    → AreSplit ranges headed end (from + i)
entire_split ranges headed end from last i sorted ordered within below following few point =
    let long : length (take (last - from) (drop from headed)) ≡ last - from =
    omega (arith, length-take (last - from) (drop from headed), length-drop from headed) in
    record {
      below = λ k d first lt.
          elim (cases_lt k from) [
            | inl early ↦
                subst (λ (h : HeadedIndex). IsBefore (begin_at ranges h.index) end) (get_or-take from headed k d early)
                (below k d (omega (arith, length-take from headed)))
            | inr later ↦
                let j = k - from in
                let same : from + j ≡ k = omega arith in
                subst (λ q. IsBefore (begin_at ranges (get_or headed q d).index) end) same
                (subst (λ (h : HeadedIndex). IsBefore (begin_at ranges h.index) end)
                (part_at headed from (last - from) j d (omega arith))
                (point.0 j d (omega arith) (omega arith)))
          ];
      following = λ k d after lt.
          elim (cases_lt k last) [
            | inl inside ↦
                let j = k - from in
                let same : from + j ≡ k = omega arith in
                subst (λ q. IsAtMost end (begin_at ranges (get_or headed q d).index)) same
                (subst (λ (h : HeadedIndex). IsAtMost end (begin_at ranges h.index))
                (part_at headed from (last - from) j d (omega arith))
                (ap not (point.1 j d (omega arith) (omega arith))))
            | inr past ↦
                subst (λ (h : HeadedIndex). IsAtMost end (begin_at ranges h.index)) (get_or_default headed k no_headed d lt)
                (at_most_trans end (begin_at ranges (get_or headed last no_headed).index)
                (begin_at ranges (get_or headed k no_headed).index) (following (omega arith))
                (begins_rise ranges headed last k no_headed sorted past lt))
          ];
    }

-- the same of all that come first and of all the others
pub below_split : (ranges : List Range) (headed : List HeadedIndex) (end : List ℕ) (m : ℕ) → AreSplit ranges headed end m
    → All (λ h. IsBefore (begin_at ranges h.index) end) (take m headed)
below_split ranges headed end m split = λ k d lt.
    let short : k < m = omega (arith, length-take m headed) in
    subst (λ (h : HeadedIndex). IsBefore (begin_at ranges h.index) end) (sym (get_or-take m headed k d short))
    (split.below k d short (omega (arith, length-take m headed)))

pub after_split : (ranges : List Range) (headed : List HeadedIndex) (end : List ℕ) (m : ℕ) → AreSplit ranges headed end m
    → All (λ h. IsAtMost end (begin_at ranges h.index)) (drop m headed)
after_split ranges headed end m split = λ k d lt.
    subst (λ (h : HeadedIndex). IsAtMost end (begin_at ranges h.index)) (sym (get_or-drop m headed k d))
    (split.following (m + k) d (omega arith) (omega (arith, length-drop m headed)))

-- no range begins below an end that the first doesn't begin below
pub none_below : (ranges : List Range) (headed : List HeadedIndex) (end : List ℕ) → AreInBeginOrder ranges headed
    → 0 < length headed → IsAtMost end (begin_at ranges (get_or headed 0 no_headed).index)
    → All (λ h. IsAtMost end (begin_at ranges h.index)) (drop 0 headed)
none_below ranges headed end sorted some following = λ k d lt.
    let first = get_or headed 0 no_headed in
    subst (λ (h : HeadedIndex). IsAtMost end (begin_at ranges h.index)) (get_or_default headed k no_headed d lt)
    (at_most_trans end (begin_at ranges first.index) (begin_at ranges (get_or headed k no_headed).index) following
    (begins_rise ranges headed 0 k no_headed sorted (omega arith) lt))

pub none_listed : (ranges : List Range) (headed : List HeadedIndex) (end : List ℕ) → length headed ≡ 0
    → All (λ h. IsAtMost end (begin_at ranges h.index)) (drop 0 headed)
none_listed ranges headed end none = λ k d lt. absurd (omega (arith, none, length-drop 0 headed))
