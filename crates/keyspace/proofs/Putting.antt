-- Appending leaves what spans within the buffer show, so ranges can be appended in sequence.
use Rattle.std.proofs.Common.{◌≡◌, ◌+◌, ℕ, List, [], ◌∷◌, ◌++◌, length, map, refl, sym, ap, ap₂, ◌∙◌, subst, All, arith, length-append, append_assoc, append-nil}
use Rattle.std.proofs.lemmas.List.{map-append, length-map}
use Rattle.std.proofs.lemmas.List.Elements.{All-nil, All-head, All-tail, All-append, All-weaker}
use Rattle.keyspace.specs.declared.span.Span.{Span}
use Rattle.keyspace.specs.storage.Fields.{RangeFields}
use Rattle.keyspace.specs.storage.Tables.{range_of_span, LiesWithin}
use Rattle.keyspace.specs.storage.Putting.{ArePut}
use Rattle.keyspace.proofs.Slices.{slice_range-append}

pub ranges_kept : (buffer more : List ℕ) (spans : List Span) → All (LiesWithin (length buffer)) spans
    → map (range_of_span (buffer ++ more)) spans ≡ map (range_of_span buffer) spans
ranges_kept buffer more [] within = refl
ranges_kept buffer more (span ∷ spans) within =
    let first = All-head (LiesWithin (length buffer)) span spans within in
    let begin = slice_range-append buffer more span.begin (span.begin + span.begin_length) first.begin in
    let end = slice_range-append buffer more span.end (span.end + span.end_length) first.end in
    let range : range_of_span (buffer ++ more) span ≡ range_of_span buffer span = λ i. record { begin = begin i; end = end i } in
    ap₂ ◌∷◌ range (ranges_kept buffer more spans (All-tail (LiesWithin (length buffer)) span spans within))

pub within_kept : (buffer more : List ℕ) (spans : List Span) → All (LiesWithin (length buffer)) spans
    → All (LiesWithin (length (buffer ++ more))) spans
within_kept buffer more spans within =
    All-weaker (LiesWithin (length buffer)) (LiesWithin (length (buffer ++ more)))
    (λ span lies. record {
      begin = omega (arith, length-append buffer more);
      end = omega (arith, length-append buffer more);
    }) spans within

pub length-put : (buffer : List ℕ) (spans : List Span) (ranges : List RangeFields) (new_buffer : List ℕ) (new_spans : List Span)
    → ArePut buffer spans ranges new_buffer new_spans → length new_spans ≡ length spans + length ranges
length-put buffer spans ranges new_buffer new_spans put =
    ap length put.spans_are ∙ length-append spans put.added
    ∙ ap (λ n. length spans + n) (sym (length-map put.added (range_of_span new_buffer)) ∙ ap length put.reported)

pub put_none : (buffer : List ℕ) (spans : List Span) → ArePut buffer spans [] buffer spans
put_none buffer spans = record {
  bytes = [];
  added = [];
  buffer_is = sym (append-nil buffer);
  spans_are = sym (append-nil spans);
  reported = refl;
  within = All-nil (LiesWithin (length buffer));
}

abbrev pub put_then : (buffer : List ℕ) (spans : List Span) (ranges : List RangeFields) (buffer₁ : List ℕ) (spans₁ : List Span)
    (ranges₁ : List RangeFields) (buffer₂ : List ℕ) (spans₂ : List Span)
    → ArePut buffer spans ranges buffer₁ spans₁ → ArePut buffer₁ spans₁ ranges₁ buffer₂ spans₂
    → ArePut buffer spans (ranges ++ ranges₁) buffer₂ spans₂
put_then buffer spans ranges buffer₁ spans₁ ranges₁ buffer₂ spans₂ first second = record {
  bytes = first.bytes ++ second.bytes;
  added = first.added ++ second.added;
  buffer_is = second.buffer_is ∙ ap (λ bytes. bytes ++ second.bytes) first.buffer_is
      ∙ append_assoc buffer first.bytes second.bytes;
  spans_are = second.spans_are ∙ ap (λ added. added ++ second.added) first.spans_are
      ∙ append_assoc spans first.added second.added;
  reported = map-append (range_of_span buffer₂) first.added second.added
      ∙ ap₂ ◌++◌ (ap (λ bytes. map (range_of_span bytes) first.added) second.buffer_is
      ∙ ranges_kept buffer₁ second.bytes first.added first.within ∙ first.reported) second.reported;
  within = All-append (LiesWithin (length buffer₂)) first.added second.added
      (subst (λ bytes. All (LiesWithin (length bytes)) first.added) (sym second.buffer_is)
      (within_kept buffer₁ second.bytes first.added first.within)) second.within;
}
