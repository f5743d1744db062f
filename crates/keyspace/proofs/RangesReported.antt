-- The ranges that spans show, by their indices.
use Rattle.std.proofs.Common.{◌≡◌, ◌<◌, ℕ, List, length, map, refl, sym, ap, ◌∙◌, subst, All, Some, slice_get, slice_range, get_or}
use Rattle.std.proofs.lemmas.List.{length-map, get_or-map}
use Rattle.keys.specs.declared.range.Range.{Range}
use Rattle.keyspace.specs.declared.span.Span.{Span}
use Rattle.keyspace.specs.storage.Fields.{range_fields, RangeHolds, ranges_with, length-ranges_with}
use Rattle.keyspace.specs.storage.Tables.{range_of_span}
use Rattle.keyspace.proofs.callers.SameFields.{same_range, same_ranges}
use Rattle.keyspace.proofs.FieldsBack.{fields_of_ranges}
use Rattle.keyspace.proofs.Slices.{slice_range-map, All-slice_range, slice_get-shown}

-- what an index past the spans reads
abbrev pub no_span : Span
no_span = record { begin = 0; begin_length = 0; end = 0; end_length = 0 }

-- a part of ranges has the fields that the part of the spans shows
pub part_reported : (buffer : List ℕ) (spans : List Span) (ranges part : List Range) (from to : ℕ)
    → map range_fields ranges ≡ map (range_of_span buffer) spans → part ≡ slice_range ranges from to
    → map range_fields part ≡ map (range_of_span buffer) (slice_range spans from to)
part_reported buffer spans ranges part from to reported is =
    ap (map range_fields) is ∙ sym (slice_range-map range_fields ranges from to)
    ∙ ap (λ fields. slice_range fields from to) reported ∙ slice_range-map (range_of_span buffer) spans from to

module _ (buffer : List ℕ) (spans : List Span) (holds : All RangeHolds (map (range_of_span buffer) spans)) where
  pub length-reported : length (ranges_with (map (range_of_span buffer) spans) holds) ≡ length spans
  length-reported =
      length-ranges_with (map (range_of_span buffer) spans) holds ∙ length-map spans (range_of_span buffer)

  pub holds_at : (index : ℕ) (none : Span) → index < length spans → RangeHolds (range_of_span buffer (get_or spans index none))
  holds_at index none within =
      let reported = range_of_span buffer in
      subst RangeHolds (get_or-map reported spans index none (reported none) within)
      (holds index (reported none) (subst (λ n. index < n) (sym (length-map spans reported)) within))

  pub range_at : (index : ℕ) (none : Span) (range : Range) → index < length spans
      → range.begin ≡ (range_of_span buffer (get_or spans index none)).begin
      → range.end ≡ (range_of_span buffer (get_or spans index none)).end
      → slice_get (ranges_with (map (range_of_span buffer) spans) holds) index ≡ Some range
  range_at index none range within begin end =
      let reported = range_of_span buffer in
      let fields : range_fields range ≡ reported (get_or spans index none) = λ i. record { begin = begin i; end = end i } in
      slice_get-shown range_fields same_range (ranges_with (map reported spans) holds) (map reported spans) index range
      (fields_of_ranges (map reported spans) holds) (subst (λ n. index < n) (sym length-reported) within)
      (fields ∙ sym (get_or-map reported spans index none (range_fields range) within))

  pub holds_within : (from to : ℕ) → All RangeHolds (map (range_of_span buffer) (slice_range spans from to))
  holds_within from to =
      subst (All RangeHolds) (slice_range-map (range_of_span buffer) spans from to)
      (All-slice_range RangeHolds (map (range_of_span buffer) spans) from to holds)

  pub part_is : (from to : ℕ) (part : List Range)
      → map range_fields part ≡ map (range_of_span buffer) (slice_range spans from to)
      → part ≡ slice_range (ranges_with (map (range_of_span buffer) spans) holds) from to
  part_is from to part reported =
      let entire = ranges_with (map (range_of_span buffer) spans) holds in
      same_ranges part (slice_range entire from to)
      (reported ∙ sym (part_reported buffer spans entire (slice_range entire from to) from to
      (fields_of_ranges (map (range_of_span buffer) spans) holds) refl))
