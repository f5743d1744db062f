-- The test by ends says to which shards a range goes, and it goes to some.
use Rattle.std.proofs.Common.{◌≡◌, ℕ, zero, suc, ◌≤◌, ◌<◌, true, not, ◌&&◌, cond, List, [], ◌∷◌, length, get_or, refl, sym, ap, ◌∙◌, subst, inl, inr, arith, All}
use Rattle.std.specs.Prelude.{Option, Some, None, slice_get}
use Rattle.std.proofs.lemmas.List.Elements.{All-nil, All-get_or}
use Rattle.std.proofs.lemmas.Option.{slice_get_within, get_or_from_slice_get}
use Rattle.keys.specs.declared.range.Range.{Range}
use Rattle.keys.specs.Key.{IsBytes, is_before}
use Rattle.keys.specs.Range.{IsEmpty}
use Rattle.keys.proofs.callers.Booleans.{and_left, and_right, and_both}
use Rattle.keys.proofs.callers.KeyOrder.{at_most_itself, at_most_before, before_at_most_same, before_or_at_most, before_or_same, not_before_itself}
use Rattle.serial.specs.Shards.{Shard, ends_above, has_key, shards, IsRising}
use Rattle.serial.proofs.callers.Reading.{none_before_empty, some_shard}
use Rattle.shards.specs.Clips.{GoesTo, goes_to}
use Rattle.shards.specs.Laws.{GoesToIsComputed, EachRangeGoes}
use Rattle.shards.specs.Reach.{shard_at}
use Rattle.shards.proofs.ShardList.{length-shards, shard_get, shard_some}
use Rattle.shards.proofs.Together.{held_goes}

module _ (shard : Shard) (range : Range) where
  -- the test of an empty range
  pub empty_goes : IsEmpty range → goes_to shard range ≡ has_key shard range.begin
  empty_goes same =
      ap (λ b. cond b (is_before shard.from range.end && ends_above shard.to range.begin) (has_key shard range.begin))
      (ap (is_before range.begin) (sym same) ∙ not_before_itself range.begin)

  filled_goes : is_before range.begin range.end ≡ true
      → goes_to shard range ≡ (is_before shard.from range.end && ends_above shard.to range.begin)
  filled_goes filled =
      ap (λ b. cond b (is_before shard.from range.end && ends_above shard.to range.begin) (has_key shard range.begin)) filled

  -- a range goes to the shard of its begin key
  pub begin_goes : has_key shard range.begin ≡ true → goes_to shard range ≡ true
  begin_goes has =
      let from = and_left (not (is_before range.begin shard.from)) (ends_above shard.to range.begin) has in
      let to = and_right (not (is_before range.begin shard.from)) (ends_above shard.to range.begin) has in
      elim (before_or_same range.begin range.end range.ordered) [
        | inl filled ↦ filled_goes filled
            ∙ and_both (is_before shard.from range.end) (ends_above shard.to range.begin)
            (at_most_before shard.from range.begin range.end from filled) to
        | inr same ↦ empty_goes same ∙ has
      ]

  -- a shard that has keys, which are bytes, has a key of each range that goes there
  some_key : ends_above shard.to shard.from ≡ true → IsBytes shard.from → goes_to shard range ≡ true → GoesTo shard range
  some_key some bytes goes =
      elim (before_or_same range.begin range.end range.ordered) [
        | inl filled ↦
            let meets = sym (filled_goes filled) ∙ goes in
            let from_end = and_left (is_before shard.from range.end) (ends_above shard.to range.begin) meets in
            let to_begin = and_right (is_before shard.from range.end) (ends_above shard.to range.begin) meets in
            elim (before_or_at_most range.begin shard.from) [
              | inl later ↦ inl (
                shard.from,
                bytes,
                and_both (not (is_before shard.from shard.from)) (ends_above shard.to shard.from) (at_most_itself shard.from) some,
                and_both (not (is_before shard.from range.begin)) (is_before shard.from range.end)
                    (before_at_most_same range.begin shard.from later) from_end,
              )
              | inr most ↦ inl (
                range.begin,
                range.begin_is_key.bytes,
                and_both (not (is_before range.begin shard.from)) (ends_above shard.to range.begin) most to_begin,
                and_both (not (is_before range.begin range.begin)) (is_before range.begin range.end) (at_most_itself range.begin) filled,
              )
            ]
        | inr same ↦ inr (same, sym (empty_goes same) ∙ goes)
      ]

  goes_if : GoesTo shard range → goes_to shard range ≡ true
  goes_if h = elim h [
    | inl held ↦ held_goes shard held.0 held.1 held.2 range held.3
    | inr empty ↦ empty_goes empty.0 ∙ empty.1
  ]

-- the first key of a shard is a key
from_bytes : (points : List (List ℕ)) (m : ℕ) → m ≤ length points → All IsBytes points → IsBytes (shard_at points m).from
from_bytes points zero within bytes = All-nil (λ byte. byte < 256)
from_bytes points (suc m) within bytes = All-get_or IsBytes points m [] (omega (arith, within)) bytes

-- each shard of rising split points has keys
pub some_of : (points : List (List ℕ)) → IsRising [] points → (m : ℕ) → ends_above (shard_at points m).to (shard_at points m).from ≡ true
some_of points rising m = by (slice_get points m) refl
  where
    by : (to : Option (List ℕ)) → slice_get points m ≡ to → ends_above (slice_get points m) (get_or ([] ∷ points) m []) ≡ true
    by None at = ap (λ (to : Option (List ℕ)). ends_above to (get_or ([] ∷ points) m [])) at
    by (Some to) at =
        ap (λ (to : Option (List ℕ)). ends_above to (get_or ([] ∷ points) m [])) at ∙ shard_some [] points rising m to at

-- the shard at an index is that of the number
pub shard_is : (points : List (List ℕ)) (m : ℕ) (shard : Shard) → slice_get (shards points) m ≡ Some shard
    → (m ≤ length points) × (shard_at points m ≡ shard)
shard_is points m shard at =
    let within = slice_get_within (shards points) m shard at in
    let inside : m ≤ length points = omega (arith, within, length-shards [] points) in
    let same : Some (shard_at points m) ≡ Some shard = sym (shard_get points m inside) ∙ at in
    (inside, cc)

pub is_computed : GoesToIsComputed
is_computed points rising bytes m shard at range =
    let is = shard_is points m shard at in
    let some : ends_above shard.to shard.from ≡ true = subst (λ (s : Shard). ends_above s.to s.from ≡ true) is.1 (some_of points rising m) in
    let from : IsBytes shard.from = subst (λ (s : Shard). IsBytes s.from) is.1 (from_bytes points m is.0 bytes) in
    (some_key shard range some from, goes_if shard range)

pub each_goes : EachRangeGoes
each_goes points range =
    let place = some_shard points [] range.begin (none_before_empty range.begin) in (
      place.0,
      place.1,
      slice_get_within (shards points) place.0 place.1 place.2,
      get_or_from_slice_get (shards points) place.0 place.1 place.1 place.2,
      begin_goes place.1 range place.3,
    )
