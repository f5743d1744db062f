-- Lemmas for callers: ranges meet exactly if neither is empty and each begins before the other ends.
use Rattle.std.proofs.Common.{◌≡◌, ◌&&◌, inl, inr, subst}
use Rattle.std.specs.Prelude.{IsTrue}
use Rattle.keys.specs.Key.{is_before, IsBefore, IsAtMost}
use Rattle.keys.specs.Range.{Meets, ranges_meet}
use Rattle.keys.specs.declared.range.Range.{Range}
use Rattle.keys.specs.Laws.{MeetByEnds}
use Rattle.keys.proofs.callers.Booleans.{and_left, and_right, and_both}
use Rattle.keys.proofs.callers.KeyOrder.{
  at_most_before,
  before_or_at_most,
  at_most_itself,
  before_at_most_same,
  before_or_same,
  not_both,
}

-- what the test looks at
pub record Overlap (a b : Range) : Type 0 where
  pub first : IsBefore a.begin a.end
  pub second : IsBefore b.begin b.end
  pub from_first : IsBefore a.begin b.end
  pub from_second : IsBefore b.begin a.end

overlap_from : (a b : Range) → IsTrue (ranges_meet a b) → Overlap a b
overlap_from a b h =
    let x = is_before a.begin a.end in
    let y = is_before b.begin b.end in
    let z = is_before a.begin b.end in
    let w = is_before b.begin a.end in
    let xyz = and_left (x && y && z) w h in
    let xy = and_left (x && y) z xyz in
    record {
      first = and_left x y xy;
      second = and_right x y xy;
      from_first = and_right (x && y) z xyz;
      from_second = and_right (x && y && z) w h;
    }

overlap_to : (a b : Range) → Overlap a b → IsTrue (ranges_meet a b)
overlap_to a b o =
    let x = is_before a.begin a.end in
    let y = is_before b.begin b.end in
    let z = is_before a.begin b.end in
    let w = is_before b.begin a.end in
    and_both (x && y && z) w (and_both (x && y) z (and_both x y o.first o.second) o.from_first) o.from_second

-- the later of the two begins lies in both
pub meets_from_test : (a b : Range) → IsTrue (ranges_meet a b) → Meets a b
meets_from_test a b h =
    let o = overlap_from a b h in
    elim (before_or_at_most a.begin b.begin) [
      | inl later ↦ (
        b.begin,
        b.begin_is_key.bytes,
        (before_at_most_same a.begin b.begin later, o.from_second),
        (at_most_itself b.begin, o.second),
      )
      | inr later ↦ (a.begin, a.begin_is_key.bytes, (at_most_itself a.begin, o.first), (later, o.from_first))
    ]

pub test_from_meets : (a b : Range) → Meets a b → IsTrue (ranges_meet a b)
test_from_meets a b m = overlap_to a b (record {
  first = at_most_before a.begin m.0 a.end m.2.0 m.2.1;
  second = at_most_before b.begin m.0 b.end m.3.0 m.3.1;
  from_first = at_most_before a.begin m.0 b.end m.2.0 m.3.1;
  from_second = at_most_before b.begin m.0 a.end m.3.0 m.2.1;
})

pub before_unless_empty : (a : Range) → (a.begin ≡ a.end → ⊥) → IsBefore a.begin a.end
before_unless_empty a h = elim (before_or_same a.begin a.end a.ordered) [ inl k ↦ k | inr e ↦ absurd (h e) ]

pub not_empty : (a : Range) → IsBefore a.begin a.end → a.begin ≡ a.end → ⊥
not_empty a h e = not_both a.begin a.end h (subst (λ key. IsAtMost key a.begin) e (at_most_itself a.begin))

-- the same in words: neither is empty
pub meets_by_ends : (a b : Range) → MeetByEnds a b
meets_by_ends a b = (
  λ m. let o = overlap_from a b (test_from_meets a b m) in
      (not_empty a o.first, not_empty b o.second, o.from_first, o.from_second),
  λ h. meets_from_test a b (overlap_to a b (record {
    first = before_unless_empty a h.0;
    second =
        before_unless_empty b h.1;
    from_first = h.2;
    from_second = h.3;
  })),
)
