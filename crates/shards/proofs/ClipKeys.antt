-- The later begin and the earlier end make the clip of a range that goes to a shard.
use Rattle.std.proofs.Common.{◌≡◌, ℕ, Bool, true, false, not, ◌&&◌, cond, List, refl, sym, ap, ap₂, ◌∙◌, subst, inl, inr}
use Rattle.std.specs.Prelude.{Option, Some, None}
use Rattle.keys.specs.declared.range.Range.{Range}
use Rattle.keys.specs.Key.{IsKey, is_before, IsAtMost}
use Rattle.keys.specs.Range.{IsEmpty}
use Rattle.keys.proofs.callers.Booleans.{and_left, and_right, true_or_false, not_both_ways}
use Rattle.keys.proofs.callers.KeyOrder.{before_trans, before_at_most, at_most_trans, before_at_most_same, not_before_itself, not_before_if, before_or_same}
use Rattle.keyspace.specs.storage.Fields.{RangeFields, range_fields, RangeHolds}
use Rattle.serial.specs.Shards.{Shard, ends_above, has_key}
use Rattle.shards.specs.Clips.{goes_to, IsClip}
use Rattle.shards.specs.Reach.{ends_below}
use Rattle.shards.specs.Built.{end_or_empty, IsProper, clip_fields}

-- A test that is true only together with another one, and so on.

and_if : (a b : Bool) → (a ≡ true → b ≡ true) → a ≡ (b && a)
and_if true b h = sym (ap (λ c. c && true) (h refl))
and_if false true h = refl
and_if false false h = refl

and_if_first : (a b : Bool) → (a ≡ true → b ≡ true) → a ≡ (a && b)
and_if_first true b h = sym (h refl)
and_if_first false b h = refl

and_pairs : (a b c d : Bool) → ((a && b) && (c && d)) ≡ ((a && c) && (b && d))
and_pairs true true c d = refl
and_pairs true false true d = refl
and_pairs true false false d = refl
and_pairs false b c d = refl

-- a key isn't before the later of two keys exactly if it is before neither
later : (from begin key : List ℕ)
    → not (is_before key (cond (is_before begin from) from begin)) ≡ (not (is_before key from) && not (is_before key begin))
later from begin key =
    elim (is_before begin from) as (λ b. is_before begin from ≡ b
    → not (is_before key (cond b from begin)) ≡ (not (is_before key from) && not (is_before key begin))) [
      | true ↦ λ e. and_if_first (not (is_before key from)) (not (is_before key begin)) (λ h.
          before_at_most_same begin key (before_at_most begin from key e h))
      | false ↦ λ e. and_if (not (is_before key begin)) (not (is_before key from)) (λ h.
          at_most_trans from begin key (ap not e) h)
    ] refl

-- a key is before the earlier of two ends exactly if it is before both
earlier : (to : Option (List ℕ)) (end key : List ℕ)
    → is_before key (cond (ends_below to end) (end_or_empty to) end) ≡ (ends_above to key && is_before key end)
earlier None end key = refl
earlier (Some to) end key =
    elim (is_before to end) as (λ b. is_before to end ≡ b
    → is_before key (cond b to end) ≡ (is_before key to && is_before key end)) [
      | true ↦ λ e. and_if_first (is_before key to) (is_before key end) (λ h. before_trans key to end h e)
      | false ↦ λ e. and_if (is_before key end) (is_before key to) (λ h. before_at_most key end to h (ap not e))
    ] refl

module _ (shard : Shard) (range : Range) (goes : goes_to shard range ≡ true) where
  -- an empty range that goes to a shard has its key there
  empty_has : IsEmpty range → has_key shard range.begin ≡ true
  empty_has same =
      let empty : is_before range.begin range.end ≡ false =
      ap (is_before range.begin) (sym same) ∙ not_before_itself range.begin in
      sym (ap (λ b. cond b (is_before shard.from range.end && ends_above shard.to range.begin) (has_key shard range.begin)) empty)
      ∙ goes

  -- so it begins and ends as it does
  empty_begin : IsEmpty range → is_before range.begin shard.from ≡ false
  empty_begin same =
      not_before_if shard.from range.begin (and_left (not (is_before range.begin shard.from)) (ends_above shard.to range.begin) (empty_has same))

  empty_end : IsEmpty range → ends_below shard.to range.end ≡ false
  empty_end same =
      ap (ends_below shard.to) (sym same) ∙ not_below shard.to range.begin
      (and_right (not (is_before range.begin shard.from)) (ends_above shard.to range.begin) (empty_has same))
    where
      not_below : (to : Option (List ℕ)) (key : List ℕ) → ends_above to key ≡ true → ends_below to key ≡ false
      not_below None key h = refl
      not_below (Some to) key h = not_before_if key to (before_at_most_same key to h)

  -- a range that isn't empty meets the shard
  filled_meets : is_before range.begin range.end ≡ true
      → (is_before shard.from range.end && ends_above shard.to range.begin) ≡ true
  filled_meets filled =
      sym (ap (λ b. cond b (is_before shard.from range.end && ends_above shard.to range.begin) (has_key shard range.begin)) filled)
      ∙ goes

  -- the clip of the range
  pub clip_of_range : (clip : Range) → range_fields clip ≡ clip_fields shard range → IsClip shard range clip
  clip_of_range clip fields =
      let begin : clip.begin ≡ cond (is_before range.begin shard.from) shard.from range.begin = ap (λ (f : RangeFields). f.begin) fields in
      let end : clip.end ≡ cond (ends_below shard.to range.end) (end_or_empty shard.to) range.end = ap (λ (f : RangeFields). f.end) fields in
      record {
        keys = λ key bytes.
            ap₂ (λ b e. not (is_before key b) && is_before key e) begin end
            ∙ ap₂ ◌&&◌ (later shard.from range.begin key) (earlier shard.to range.end key)
            ∙ and_pairs (not (is_before key shard.from)) (not (is_before key range.begin)) (ends_above shard.to key) (is_before key range.end);
        empty = λ same. (
          begin ∙ ap (λ b. cond b shard.from range.begin) (empty_begin same),
          end ∙ ap (λ b. cond b (end_or_empty shard.to) range.end) (empty_end same),
        );
      }

  -- it is a range
  pub clip_holds : IsProper shard → RangeHolds (clip_fields shard range)
  clip_holds proper = record {
    begin = elim (is_before range.begin shard.from) as (λ b. IsKey (cond b shard.from range.begin)) [
      | true ↦ proper.from
      | false ↦ range.begin_is_key
    ];
    end = elim (ends_below shard.to range.end) as (λ b. IsKey (cond b (end_or_empty shard.to) range.end)) [
      | true ↦ proper.to
      | false ↦ range.end_is_key
    ];
    ordered = elim (true_or_false (is_before range.begin range.end)) [
      | inl filled ↦ filled_ordered proper filled
      | inr empty ↦ empty_ordered (same_ends empty)
    ];
  }
    where
      same_ends : is_before range.begin range.end ≡ false → range.begin ≡ range.end
      same_ends empty =
          elim (before_or_same range.begin range.end range.ordered) [
            | inl before ↦ absurd (not_both_ways (is_before range.begin range.end) before empty)
            | inr same ↦ same
          ]

      empty_ordered : range.begin ≡ range.end → IsAtMost (clip_fields shard range).begin (clip_fields shard range).end
      empty_ordered same =
          subst (λ b. IsAtMost (cond b shard.from range.begin) (clip_fields shard range).end) (sym (empty_begin same))
          (subst (λ b. IsAtMost range.begin (cond b (end_or_empty shard.to) range.end)) (sym (empty_end same)) range.ordered)

      -- the shard's end isn't before a key that it ends above
      at_end : (to : Option (List ℕ)) (key end : List ℕ) → ends_above to key ≡ true → IsAtMost key end
          → IsAtMost key (cond (ends_below to end) (end_or_empty to) end)
      at_end None key end above most = most
      at_end (Some to) key end above most =
          elim (is_before to end) as (λ b. IsAtMost key (cond b to end)) [
            | true ↦ before_at_most_same key to above
            | false ↦ most
          ]

      filled_ordered : IsProper shard → is_before range.begin range.end ≡ true
          → IsAtMost (clip_fields shard range).begin (clip_fields shard range).end
      filled_ordered proper filled =
          let meets = filled_meets filled in
          let from_end = and_left (is_before shard.from range.end) (ends_above shard.to range.begin) meets in
          let to_begin = and_right (is_before shard.from range.end) (ends_above shard.to range.begin) meets in
          elim (is_before range.begin shard.from) as (λ b. IsAtMost (cond b shard.from range.begin) (clip_fields shard range).end) [
            | true ↦ at_end shard.to shard.from range.end proper.some (before_at_most_same shard.from range.end from_end)
            | false ↦ at_end shard.to range.begin range.end to_begin range.ordered
          ]
