-- Ranks follow the order of keys, so runs meet where ranges do.
use Rattle.std.proofs.Common.{◌≡◌, ℕ, zero, suc, ◌<◌, ◌≤◌, Bool, true, false, List, [], ◌∷◌, length, get_or, refl, ap, inl, inr, arith}
use Rattle.std.specs.Prelude.{Contains}
use Rattle.std.proofs.lemmas.Bool.{cases_lt}
use Rattle.std.proofs.lemmas.List.Sums.{sum_by-le-sum_by, count_by-le-length}
use Rattle.keys.specs.Key.{is_before, IsBefore, IsAtMost}
use Rattle.keys.specs.Range.{Meets}
use Rattle.keys.specs.declared.range.Range.{Range}
use Rattle.keys.proofs.callers.KeyOrder.{before_or_at_most, before_at_most, before_at_most_same, not_before_itself}
use Rattle.keys.proofs.Ranking.{one_if, rank_cons}
use Rattle.keys.proofs.callers.Meeting.{before_unless_empty, meets_by_ends}
use Rattle.keys.specs.GapRuns.{rank, run, HaveBegin}
use Rattle.keys.specs.Gaps.{HasGap, HaveCommonGap}
use Rattle.keys.specs.Laws.{RunsDetermineMeeting, RunsAreWithin}

one_if_le : (s t : Bool) → (s ≡ true → t ≡ true) → one_if s ≤ one_if t
one_if_le false t h = omega arith
one_if_le true t h = rw (h refl) (omega arith)

one_if_at_most : (x a b : List ℕ) → IsAtMost a b → one_if (is_before x a) ≤ one_if (is_before x b)
one_if_at_most x a b h = one_if_le (is_before x a) (is_before x b) (λ l. before_at_most x a b l h)

-- a key that isn't after another has no greater rank
pub rank_at_most : (keys : List (List ℕ)) (a b : List ℕ) → IsAtMost a b → rank keys a ≤ rank keys b
rank_at_most keys a b h =
    sum_by-le-sum_by (λ k. one_if (is_before k a)) (λ k. one_if (is_before k b)) keys
    (λ k. one_if_at_most k a b h)

rank_below_at : (keys : List (List ℕ)) (a b : List ℕ) (i : ℕ) → i < length keys → get_or keys i a ≡ a
    → IsBefore a b → rank keys a < rank keys b
rank_below_at [] a b i lt e h = absurd (omega arith)
rank_below_at (x ∷ keys) a b zero lt e h =
    let rest = rank_at_most keys a b (before_at_most_same a b h) in
    rw (rank_cons x keys a, rank_cons x keys b, e, not_before_itself a, h) (omega arith)
rank_below_at (x ∷ keys) a b (suc i) lt e h =
    let rest = rank_below_at keys a b i (omega arith) e h in
    let first = one_if_at_most x a b (before_at_most_same a b h) in
    rw (rank_cons x keys a, rank_cons x keys b) (omega arith)

-- one of the keys that comes before another key has a lesser rank
pub rank_below : (keys : List (List ℕ)) (a b : List ℕ) → Contains keys a → IsBefore a b
    → rank keys a < rank keys b
rank_below keys a b c h = rank_below_at keys a b c.0 c.1 c.2 h

-- a key of lesser rank comes before
pub before_from_rank : (keys : List (List ℕ)) (a b : List ℕ) → rank keys a < rank keys b → IsBefore a b
before_from_rank keys a b h =
    elim (before_or_at_most a b) [
      | inl l ↦ l
      | inr k ↦ let le = rank_at_most keys b a k in absurd (omega arith)
    ]

-- no rank is above the number of the keys
pub rank_within : (keys : List (List ℕ)) (key : List ℕ) → rank keys key ≤ length keys
rank_within keys key = count_by-le-length (λ k. is_before k key) keys

-- the greater of the two firsts is in both runs
common_gap : (a b : ℕ × ℕ) → a.0 < a.1 → b.0 < b.1 → a.0 < b.1 → b.0 < a.1 → HaveCommonGap a b
common_gap a b ha hb ab ba = elim (cases_lt a.0 b.0) [
  | inl lt ↦ (b.0, (omega arith, ba), (omega arith, hb))
  | inr le ↦ (a.0, (omega arith, ha), (le, ab))
]

common_from_meets : (keys : List (List ℕ)) (a b : Range) → HaveBegin keys a → HaveBegin keys b → Meets a b
    → HaveCommonGap (run keys a) (run keys b)
common_from_meets keys a b ha hb m =
    let e = (meets_by_ends a b).0 m in
    let in_a = ha e.0 in
    let in_b = hb e.1 in
    common_gap (run keys a) (run keys b)
    (rank_below keys a.begin a.end in_a (before_unless_empty a e.0))
    (rank_below keys b.begin b.end in_b (before_unless_empty b e.1))
    (rank_below keys a.begin b.end in_a e.2)
    (rank_below keys b.begin a.end in_b e.3)

-- a range whose run has a gap isn't empty
pub filled_from_gap : (keys : List (List ℕ)) (a : Range) (gap : ℕ) → HasGap (run keys a) gap
    → a.begin ≡ a.end → ⊥
filled_from_gap keys a gap h e = let same = ap (rank keys) e in absurd (omega arith)

meets_from_common : (keys : List (List ℕ)) (a b : Range) → HaveCommonGap (run keys a) (run keys b) → Meets a b
meets_from_common keys a b g = (meets_by_ends a b).1 (
  filled_from_gap keys a g.0 g.1,
  filled_from_gap keys b g.0 g.2,
  before_from_rank keys a.begin b.end (omega (arith, g.1, g.2)),
  before_from_rank keys b.begin a.end (omega (arith, g.1, g.2)),
)

pub runs_determine_meeting : RunsDetermineMeeting
runs_determine_meeting keys a b ha hb = (common_from_meets keys a b ha hb, meets_from_common keys a b)

pub runs_are_within : RunsAreWithin
runs_are_within keys range =
    (rank_at_most keys range.begin range.end range.ordered, rank_within keys range.end)
