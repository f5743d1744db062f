-- Whether a range goes to a shard, by few comparisons, and which keys its clip has.
use Rattle.std.proofs.Common.{◌≡◌, ◌∙◌, ℕ, Bool, true, false, not, ◌&&◌, ◌||◌, cond, List, length, refl, sym, ap, ap₂, subst₂, inl, inr}
use Rattle.keys.specs.declared.range.Range.{Range}
use Rattle.keys.specs.Key.{is_before}
use Rattle.keys.proofs.callers.KeyOrder.{at_most_before, before_at_most_same, before_or_same, not_before_if, not_before_itself}
use Rattle.keyspace.specs.declared.span.Span.{Span}
use Rattle.keyspace.specs.storage.Fields.{RangeFields, range_fields}
use Rattle.keyspace.specs.storage.Tables.{range_of_span, LiesWithin}
use Rattle.serial.specs.Shards.{Shard, ends_above, has_key}
use Rattle.shards.specs.Built.{LiesAt, HasBounds, end_or_empty, clip_fields}
use Rattle.shards.specs.Clips.{goes_to}
use Rattle.shards.specs.Cut.{IsCut}
use Rattle.shards.specs.declared.shard_ends.Cut.{Cut}
use Rattle.shards.specs.declared.shard_bounds.Bounds.{Bounds}
use Rattle.shards.specs.declared.shard_bounds.KeyAt.{KeyAt}
use Rattle.keys.proofs.callers.Booleans.{and_comm}

unless_before : (b x : Bool) → (b ≡ false → x ≡ true) → x ≡ (not b || x)
unless_before true x h = refl
unless_before false x h = h refl

not_before : (b x : Bool) → (b ≡ true → x ≡ false) → not b ≡ (not b || x)
not_before true x h = sym (h refl)
not_before false x h = refl

and_false : (b : Bool) → (b && false) ≡ false
and_false true = refl
and_false false = refl

module _ (shard : Shard) (range : Range) where
  abbrev begins_before : Bool
  begins_before = is_before range.begin shard.from

  abbrev ends_past : Bool
  ends_past = is_before shard.from range.end

  -- the range begins before the shard ends, and if it begins before the shard too, it ends after the begin of the shard
  goes_by : goes_to shard range ≡ (ends_above shard.to range.begin && (not begins_before || ends_past))
  goes_by =
      elim (before_or_same range.begin range.end range.ordered) [
        | inl filled ↦
            ap (λ b. cond b (ends_past && ends_above shard.to range.begin) (has_key shard range.begin)) filled
            ∙ and_comm ends_past (ends_above shard.to range.begin)
            ∙ ap (λ b. ends_above shard.to range.begin && b)
            (unless_before begins_before ends_past (λ no. at_most_before shard.from range.begin range.end (ap not no) filled))
        | inr same ↦
            ap (λ b. cond b (ends_past && ends_above shard.to range.begin) (has_key shard range.begin))
            (ap (is_before range.begin) (sym same) ∙ not_before_itself range.begin)
            ∙ and_comm (not begins_before) (ends_above shard.to range.begin)
            ∙ ap (λ b. ends_above shard.to range.begin && b)
            (not_before begins_before ends_past
            (λ yes. ap (is_before shard.from) (sym same) ∙ not_before_if range.begin shard.from (before_at_most_same range.begin shard.from yes)))
      ]

  pub begins_after : ends_above shard.to range.begin ≡ false → goes_to shard range ≡ false
  begins_after above = goes_by ∙ ap (λ b. b && (not begins_before || ends_past)) above

  pub is_missed : (not begins_before || ends_past) ≡ false → goes_to shard range ≡ false
  is_missed missed = goes_by ∙ ap (λ b. ends_above shard.to range.begin && b) missed ∙ and_false (ends_above shard.to range.begin)

  pub is_reached : ends_above shard.to range.begin ≡ true → (not begins_before || ends_past) ≡ true → goes_to shard range ≡ true
  is_reached above reached = goes_by ∙ ap₂ ◌&&◌ above reached

picked_lies : (b : Bool) (buffer : List ℕ) (bound own : KeyAt) (key other : List ℕ) → LiesAt buffer bound key → LiesAt buffer own other
    → LiesAt buffer (cond b bound own) (cond b key other)
picked_lies true buffer bound own key other first second = first
picked_lies false buffer bound own key other first second = second

-- The keys of the clip of a range whose own keys lie in the buffer.
pub cut_lies : (shard : Shard) (m : ℕ) (range : Range) (cut : Cut) (bounds : Bounds) (span : Span) (buffer : List ℕ) (begin end : KeyAt)
    → HasBounds shard m buffer bounds → LiesWithin (length buffer) span → range_of_span buffer span ≡ range_fields range
    → IsCut shard range cut → begin ≡ cond cut.begin bounds.from (record { begin = span.begin; length = span.begin_length })
    → end ≡ cond cut.end bounds.to (record { begin = span.end; length = span.end_length })
    → LiesAt buffer begin (clip_fields shard range).begin × LiesAt buffer end (clip_fields shard range).end
cut_lies shard m range cut bounds span buffer begin end has within reported is is_begin is_end =
    let own_begin : KeyAt = record { begin = span.begin; length = span.begin_length } in
    let own_end : KeyAt = record { begin = span.end; length = span.end_length } in
    let begins : LiesAt buffer own_begin range.begin = record { within = within.begin; bytes = ap (λ (r : RangeFields). r.begin) reported } in
    let ends : LiesAt buffer own_end range.end = record { within = within.end; bytes = ap (λ (r : RangeFields). r.end) reported } in (
      subst₂ (λ (at : KeyAt) (b : Bool). LiesAt buffer at (cond b shard.from range.begin)) (sym is_begin) is.begin
          (picked_lies cut.begin buffer bounds.from own_begin shard.from range.begin has.from begins),
      subst₂ (λ (at : KeyAt) (b : Bool). LiesAt buffer at (cond b (end_or_empty shard.to) range.end)) (sym is_end) is.end
          (picked_lies cut.end buffer bounds.to own_end (end_or_empty shard.to) range.end has.to ends),
    )
