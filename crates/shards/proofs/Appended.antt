-- What lies in a buffer stays there when more is appended, and clips of one range more are appended.
use Rattle.std.proofs.Common.{◌≡◌, ℕ, zero, suc, ◌+◌, ◌<◌, Bool, true, false, cond, List, [], ◌∷◌, ◌++◌, length, map, take, get_or, refl, sym, ap, ◌∙◌, subst, subst₂, arith, length-append, append-nil}
use Rattle.std.specs.Prelude.{Option, Some, None, IfSome, is_some, nat_lt, filter, slice_get}
use Rattle.std.proofs.lemmas.List.{length-map, map-append}
use Rattle.std.proofs.lemmas.List.Elements.{All-nil, All-cons, filter_more}
use Rattle.std.proofs.lemmas.Option.{get_or_from_slice_get, slice_get-get_or, slice_get_within}
use Rattle.keys.specs.declared.range.Range.{Range}
use Rattle.keys.proofs.callers.Lists.{some_at}
use Rattle.keyspace.specs.declared.span.Span.{Span}
use Rattle.keyspace.specs.storage.Fields.{RangeFields, range_fields}
use Rattle.keyspace.specs.storage.Tables.{bytes_at, range_of_span, LiesWithin}
use Rattle.keyspace.specs.storage.Putting.{ArePut}
use Rattle.keyspace.proofs.callers.Putting.{slice_range-append, put_then}
use Rattle.serial.specs.Shards.{Shard}
use Rattle.shards.specs.Clips.{goes_to}
use Rattle.keys.specs.Key.{is_before}
use Rattle.shards.specs.Built.{LiesAt, HasBounds, end_or_empty, clip_fields, clips_of}
use Rattle.shards.specs.Reach.{ends_below, is_reached, IsReported}
use Rattle.shards.specs.declared.reach.Reach.{Reach}
use Rattle.shards.specs.declared.shard_bounds.KeyAt.{KeyAt}
use Rattle.shards.specs.declared.shard_bounds.Bounds.{Bounds}

pub lies_kept : (buffer more new_buffer : List ℕ) (at : KeyAt) (key : List ℕ) → new_buffer ≡ buffer ++ more → LiesAt buffer at key
    → LiesAt new_buffer at key
lies_kept buffer more new_buffer at key is lies = record {
  within = omega (arith, lies.within, ap length is, length-append buffer more);
  bytes = ap (λ bytes. bytes_at bytes at.begin at.length) is
      ∙ slice_range-append buffer more at.begin (at.begin + at.length) lies.within ∙ lies.bytes;
}

pub bounds_kept : (shard : Shard) (m : ℕ) (buffer more new_buffer : List ℕ) (bounds : Bounds) → new_buffer ≡ buffer ++ more
    → HasBounds shard m buffer bounds → HasBounds shard m new_buffer bounds
bounds_kept shard m buffer more new_buffer bounds is has = record {
  number = has.number;
  from = lies_kept buffer more new_buffer bounds.from _ is has.from;
  to = lies_kept buffer more new_buffer bounds.to _ is has.to;
}

-- a choice that is there if the test is true
some_if : (b : Bool) (at : KeyAt) → is_some (cond b (Some at) None) ≡ b
some_if true at = refl
some_if false at = refl

lies_if : (b : Bool) (buffer : List ℕ) (at : KeyAt) (key : List ℕ) → LiesAt buffer at key
    → IfSome (cond b (Some at) None) (λ at. LiesAt buffer at key)
lies_if true buffer at key lies = lies
lies_if false buffer at key lies = tt

-- The clip of a range, if what is told of its reach decides which of its keys are the ends of the shard.
pub clip_put : (shard : Shard) (m : ℕ) (range : Range) (reach : Reach) (bounds : Bounds) (begin end : Option KeyAt)
    (buffer new_buffer : List ℕ) (spans new_spans : List Span) → HasBounds shard m buffer bounds → IsReported shard m range reach
    → is_reached reach m ≡ true → begin ≡ cond (nat_lt reach.first bounds.shard) (Some bounds.from) None
    → end ≡ cond (nat_lt bounds.shard reach.last) (Some bounds.to) None
    → ((from to : List ℕ) → IfSome begin (λ at. LiesAt buffer at from) → IfSome end (λ at. LiesAt buffer at to)
    → ArePut buffer spans (record {
      begin = cond (is_some begin) from range.begin;
      end = cond (is_some end) to range.end;
    } ∷ []) new_buffer new_spans)
    → ArePut buffer spans (clip_fields shard range ∷ []) new_buffer new_spans
clip_put shard m range reach bounds begin end buffer new_buffer spans new_spans has reported reached is_begin is_end put =
    let first : nat_lt reach.first bounds.shard ≡ is_before range.begin shard.from =
    ap (nat_lt reach.first) has.number ∙ sym reported.begins in
    let last : nat_lt bounds.shard reach.last ≡ ends_below shard.to range.end =
    ap (λ (n : ℕ). nat_lt n reach.last) has.number ∙ sym (reported.ends reached) in
    let begins : is_some begin ≡ is_before range.begin shard.from =
    ap (λ (at : Option KeyAt). is_some at) is_begin ∙ some_if (nat_lt reach.first bounds.shard) bounds.from ∙ first in
    let ends : is_some end ≡ ends_below shard.to range.end =
    ap (λ (at : Option KeyAt). is_some at) is_end ∙ some_if (nat_lt bounds.shard reach.last) bounds.to ∙ last in
    let made = put shard.from (end_or_empty shard.to)
    (subst (λ (at : Option KeyAt). IfSome at (λ at. LiesAt buffer at shard.from)) (sym is_begin)
    (lies_if (nat_lt reach.first bounds.shard) buffer bounds.from shard.from has.from))
    (subst (λ (at : Option KeyAt). IfSome at (λ at. LiesAt buffer at (end_or_empty shard.to))) (sym is_end)
    (lies_if (nat_lt bounds.shard reach.last) buffer bounds.to (end_or_empty shard.to) has.to)) in
    subst₂ (λ (b e : Bool). ArePut buffer spans (record {
      begin = cond b shard.from range.begin;
      end = cond e (end_or_empty shard.to) range.end;
    } ∷ []) new_buffer new_spans) begins ends made

-- the span of a range whose keys lie in the buffer is appended
pub span_put : (buffer : List ℕ) (spans : List Span) (range : RangeFields) (span : Span) (new_spans : List Span)
    → new_spans ≡ spans ++ span ∷ [] → LiesWithin (length buffer) span → range_of_span buffer span ≡ range
    → ArePut buffer spans (range ∷ []) buffer new_spans
span_put buffer spans range span new_spans is within reported = record {
  bytes = [];
  added = span ∷ [];
  buffer_is = sym (append-nil buffer);
  spans_are = is;
  reported = ap (λ fields. fields ∷ []) reported;
  within = All-cons (LiesWithin (length buffer)) span [] within (All-nil (LiesWithin (length buffer)));
}

-- spans that show ranges show each of them
pub reported_each : (buffer : List ℕ) (spans : List Span) (ranges : List Range) (i : ℕ) (span : Span) (range : Range)
    → map (range_of_span buffer) spans ≡ map range_fields ranges → slice_get spans i ≡ Some span → slice_get ranges i ≡ Some range
    → range_of_span buffer span ≡ range_fields range
reported_each buffer [] ranges i span range reported at there = absurd cc
reported_each buffer (first ∷ spans) [] i span range reported at there = absurd cc
reported_each buffer (first ∷ spans) (own ∷ ranges) zero span range reported at there =
    let same : first ≡ span = cc in
    let same_range : own ≡ range = cc in
    let fields : range_of_span buffer first ≡ range_fields own = cc in
    subst₂ (λ s r. range_of_span buffer s ≡ range_fields r) same same_range fields
reported_each buffer (first ∷ spans) (own ∷ ranges) (suc i) span range reported at there =
    let others : map (range_of_span buffer) spans ≡ map range_fields ranges = cc in
    reported_each buffer spans ranges i span range others at there

module _ (shard : Shard) (ranges : List Range) (i : ℕ) (range : Range) (inside : i < length ranges) (is : range ≡ get_or ranges i range) where
  -- the clips of one range more
  clips_more : clips_of shard (take (i + 1) ranges)
      ≡ clips_of shard (take i ranges) ++ map (clip_fields shard) (cond (goes_to shard range) (range ∷ []) [])
  clips_more =
      ap (map (clip_fields shard)) (filter_more (goes_to shard) ranges i range inside
      ∙ ap (λ (r : Range). filter (goes_to shard) (take i ranges) ++ cond (goes_to shard r) (r ∷ []) []) (sym is))
      ∙ map-append (clip_fields shard) (filter (goes_to shard) (take i ranges)) (cond (goes_to shard range) (range ∷ []) [])

  pub clips_with : goes_to shard range ≡ true
      → clips_of shard (take (i + 1) ranges) ≡ clips_of shard (take i ranges) ++ clip_fields shard range ∷ []
  clips_with goes =
      clips_more ∙ ap (λ b. clips_of shard (take i ranges) ++ map (clip_fields shard) (cond b (range ∷ []) [])) goes

  pub clips_without : goes_to shard range ≡ false → clips_of shard (take (i + 1) ranges) ≡ clips_of shard (take i ranges)
  clips_without stays =
      clips_more ∙ ap (λ b. clips_of shard (take i ranges) ++ map (clip_fields shard) (cond b (range ∷ []) [])) stays
      ∙ append-nil (clips_of shard (take i ranges))

  -- both by the test
  pub clips_next : (goes : Bool) → goes ≡ goes_to shard range
      → clips_of shard (take (i + 1) ranges) ≡ clips_of shard (take i ranges) ++ cond goes (clip_fields shard range ∷ []) []
  clips_next true goes = clips_with (sym goes)
  clips_next false goes = clips_without (sym goes) ∙ sym (append-nil (clips_of shard (take i ranges)))

-- the range of a span, if spans show ranges
pub range_at : (buffer : List ℕ) (spans : List Span) (ranges : List Range) (i : ℕ) (none : Span)
    → map (range_of_span buffer) spans ≡ map range_fields ranges → i < length spans
    → (range : Range) × (slice_get ranges i ≡ Some range) × (range_of_span buffer (get_or spans i none) ≡ range_fields range)
range_at buffer spans ranges i none reported inside =
    let within : i < length ranges =
    omega (arith, inside, ap length reported, length-map spans (range_of_span buffer), length-map ranges range_fields) in
    let range = some_at ranges i within in (
      range.0,
      range.1,
      reported_each buffer spans ranges i (get_or spans i none) range.0 reported (slice_get-get_or spans i none inside) range.1,
    )

-- The clip of one range more is appended, if the range goes to the shard.
pub put_next : (shard : Shard) (ranges : List Range) (i : ℕ) (range : Range) → slice_get ranges i ≡ Some range
    → (buffer : List ℕ) (old kept new : List Span) (goes : Bool) → goes ≡ goes_to shard range
    → ArePut buffer old (clips_of shard (take i ranges)) buffer kept
    → ArePut buffer kept (cond goes (clip_fields shard range ∷ []) []) buffer new
    → ArePut buffer old (clips_of shard (take (i + 1) ranges)) buffer new
put_next shard ranges i range at buffer old kept new goes is before one =
    let there : range ≡ get_or ranges i range = sym (get_or_from_slice_get ranges i range range at) in
    subst (λ (all : List RangeFields). ArePut buffer old all buffer new)
    (sym (clips_next shard ranges i range (slice_get_within ranges i range at) there goes is))
    (put_then buffer old (clips_of shard (take i ranges)) buffer kept (cond goes (clip_fields shard range ∷ []) []) buffer new before one)
