-- Ranges that C gives by their keys, and what tables tell to which they are appended.
use Rattle.std.proofs.Common.{◌≡◌, ◌+◌, ℕ, List, [], ◌∷◌, ◌++◌, length, map, refl, sym, ap₂, All, arith, length-append, append-nil}
use Rattle.std.proofs.lemmas.List.Elements.{All-map, All-weaker}
use Rattle.keyspace.specs.declared.span.Span.{Span}
use Rattle.keyspace.specs.storage.Fields.{RangeHolds}
use Rattle.keyspace.specs.storage.Tables.{range_of_span, LiesWithin}
use Rattle.keyspace.specs.storage.Putting.{ArePut}
use Rattle.archcaraway_c.specs.declared.key_span.KeySpan.{KeySpan}
use Rattle.archcaraway_c.proofs.Joining.{part_after}
use Rattle.archcaraway_c.specs.BatchObject.{range_given, span_after, IsRangeOf}

-- the spans show the ranges that were given
pub reported_given : (buffer keys : List ℕ) (given : List KeySpan)
    → map (range_of_span (buffer ++ keys)) (map (span_after (length buffer)) given) ≡ map (range_given keys) given
reported_given buffer keys [] = refl
reported_given buffer keys (span ∷ given) =
    let begin = part_after buffer keys span.begin (span.begin + span.begin_length) _ (omega arith) in
    let end = part_after buffer keys span.end (span.end + span.end_length) _ (omega arith) in
    let range : range_of_span (buffer ++ keys) (span_after (length buffer) span) ≡ range_given keys span =
    λ i. record { begin = begin i; end = end i } in
    ap₂ ◌∷◌ range (reported_given buffer keys given)

-- and lie in the buffer
pub lie_after : (buffer keys : List ℕ) (given : List KeySpan) → All (IsRangeOf keys) given
    → All (LiesWithin (length (buffer ++ keys))) (map (span_after (length buffer)) given)
lie_after buffer keys given ranges =
    All-map (LiesWithin (length (buffer ++ keys))) (span_after (length buffer)) given
    (All-weaker (IsRangeOf keys) (λ span. LiesWithin (length (buffer ++ keys)) (span_after (length buffer) span))
    (λ span is. record {
      begin = omega (arith, is.0.begin, length-append buffer keys);
      end = omega (arith, is.0.end, length-append buffer keys);
    }) given ranges)

pub hold_given : (keys : List ℕ) (given : List KeySpan) → All (IsRangeOf keys) given
    → All RangeHolds (map (range_given keys) given)
hold_given keys given ranges =
    All-map RangeHolds (range_given keys) given
    (All-weaker (IsRangeOf keys) (λ span. RangeHolds (range_given keys span)) (λ span is. is.1) given ranges)

-- the ranges are put: first with the bytes of their keys
pub put_first : (buffer keys : List ℕ) (spans : List Span) (given : List KeySpan) → All (IsRangeOf keys) given
    → ArePut buffer spans (map (range_given keys) given) (buffer ++ keys) (spans ++ map (span_after (length buffer)) given)
put_first buffer keys spans given ranges = record {
  bytes = keys;
  added = map (span_after (length buffer)) given;
  buffer_is = refl;
  spans_are = refl;
  reported = reported_given buffer keys given;
  within = lie_after buffer keys given ranges;
}

-- and then without
pub put_second : (buffer keys : List ℕ) (spans : List Span) (given : List KeySpan) → All (IsRangeOf keys) given
    → ArePut (buffer ++ keys) spans (map (range_given keys) given) (buffer ++ keys)
    (spans ++ map (span_after (length buffer)) given)
put_second buffer keys spans given ranges = record {
  bytes = [];
  added = map (span_after (length buffer)) given;
  buffer_is = sym (append-nil (buffer ++ keys));
  spans_are = refl;
  reported = reported_given buffer keys given;
  within = lie_after buffer keys given ranges;
}
