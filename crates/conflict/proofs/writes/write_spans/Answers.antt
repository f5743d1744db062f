use Rattle.std.proofs.Common.{w64, to_z, of_z, ◌≡◌, ◌≤◌, ◌<◌, length, ap, arith, sym, subst, ◌∙◌}
use Rattle.std.specs.Prelude.{MatchOption, Some, slice_get}
use Rattle.std.proofs.lemmas.Int.{to_z-of_z}
use Rattle.std.proofs.lemmas.Option.{slice_get_within}
use Rattle.keys.specs.declared.range.Range.{Range}
use Rattle.stepmap.specs.Laws.{MayBeNext}
use Rattle.keyspace.specs.storage.BatchRanges.{ranges_in}
use Rattle.conflict.specs.declared.union.UnitedSpan.{UnitedSpan}
use Rattle.stepmap.specs.Writing.{after_write}
use Rattle.conflict.specs.Union.{Spans}
use Rattle.conflict.specs.Pace.{after_writes}
use Rattle.conflict.proofs.Paced.{after_writes_more, after_writes_all}
use Rattle.conflict.proofs.Spanned.{span_at, spanned_count, lengths_same, empty_same, after_same}
use Rattle.conflict.proofs.writes.write_spans.Goals.{In-Some, In_default}
use Rattle.conflict.proofs.writes.write_spans.Goals as goal

-- the span at the index, which the range is of
found : (c : In-Some) → (span : UnitedSpan) × (slice_get c.args.spans.now c.loop-next.index ≡ Some span)
    × Spans (ranges_in c.args.txns.now) span c.in-Some.range
found c =
    subst (λ o. MatchOption o (length c.args.spans.now ≤ c.loop-next.index) (λ range. (span : UnitedSpan)
    × (slice_get c.args.spans.now c.loop-next.index ≡ Some span)
    × Spans (ranges_in c.args.txns.now) span range)) c.in-Some.is c.loop-next.invariant.next

-- one more range is there
below : (c : In-Some) → c.loop-next.index < length c.args.spans.now
below c =
    let span = found c in
    slice_get_within c.args.spans.now c.loop-next.index span.0 span.1

-- the range in a list that the spans name, and what a write of it requires
united_at : (c : In-Some) → (range : Range)
    × Spans (ranges_in c.args.txns.now) (found c).0 range
    × MayBeNext range (to_z w64 (of_z w64 c.args.version)) c.loop-next.steps
united_at c =
    let ranges = ranges_in c.args.txns.now in
    let span = found c in
    let united = c.requires.spanned.0 in
    let spanned = c.requires.spanned.1 in
    let at = span_at ranges c.args.spans.now united spanned c.loop-next.index span.0 span.1 in
    let turn = c.writing.ensures.in_turn united (to_z w64 (of_z w64 c.args.version)) (c.requires.apart united spanned) in (
      at.0,
      at.2,
      turn.next c.loop-next.index at.0 c.args.steps.now c.loop-next.steps (c.loop-next.invariant.written united spanned)
          at.1,
    )

pub overflow_add-index : goal.overflow_add-index
overflow_add-index c = omega (arith, below (goal.at.overflow_add-index c).In-Some, c.well_formed)

pub write-requires-clause-filled : goal.write-requires-clause-filled
write-requires-clause-filled c = λ empty.
    let here = (goal.at.write-requires-clause-filled c).In-Some in
    let at = united_at here in
    at.2.filled (empty_same (found here).2 at.1 empty)

pub write-requires-clause-ready : goal.write-requires-clause-ready
write-requires-clause-ready c =
    let here = (goal.at.write-requires-clause-ready c).In-Some in
    let at = united_at here in
    at.2.ready ∙ ap Some (sym (lengths_same (found here).2 at.1))

pub write-requires-clause-newest : goal.write-requires-clause-newest
write-requires-clause-newest c =
    let here = (goal.at.write-requires-clause-newest c).In-Some in
    (united_at here).2.newest

pub write-requires-clause-late : goal.write-requires-clause-late
write-requires-clause-late c =
    let here = (goal.at.write-requires-clause-late c).In-Some in
    (united_at here).2.late

pub loop-next-smaller : goal.loop-next-smaller
loop-next-smaller c = omega (arith, below (goal.at.loop-next-smaller c).In-Some)

pub loop-next-preserved : goal.loop-next-preserved
loop-next-preserved c =
    let ranges = ranges_in c.args.txns.now in
    let i = c.loop-next.index in
    let version = to_z w64 (of_z w64 c.args.version) in
    let here = (goal.at.loop-next-preserved c).In-Some in
    let span = found here in
    let map = c.write.ensures.map in
    record {
      within = omega (arith, below here);
      next = c.range_at-next-in-Some.ensures.range;
      written = λ united spanned.
          let at = span_at ranges c.args.spans.now united spanned i span.0 span.1 in
          let turn = c.writing.ensures.in_turn united version (c.requires.apart united spanned) in
          turn.step i at.0 c.args.steps.now c.loop-next.steps c.write.new.self
          (c.loop-next.invariant.written united spanned) at.1
          (map ∙ after_same span.2 at.2 version c.loop-next.steps);
      exact = λ united spanned.
          let at = span_at ranges c.args.spans.now united spanned i span.0 span.1 in
          map ∙ after_same span.2 at.2 version c.loop-next.steps
          ∙ ap (after_write at.0 version) (c.loop-next.invariant.exact united spanned)
          ∙ sym (after_writes_more united i at.0 version c.args.steps.now at.1);
    }

-- no range is left
all_written : (c : In_default) → c.loop-next.index ≡ length c.args.spans.now
all_written c =
    let none = subst (λ o. MatchOption o (length c.args.spans.now ≤ c.loop-next.index) (λ range. (span : UnitedSpan)
    × (slice_get c.args.spans.now c.loop-next.index ≡ Some span)
    × Spans (ranges_in c.args.txns.now) span range)) c.in_default.is c.loop-next.invariant.next in
    omega (arith, none, c.loop-next.invariant.within)

pub returns : goal.returns
returns c = record {
  written = λ united spanned.
      let all = all_written (goal.at.returns c).In_default in
      let count = spanned_count (ranges_in c.args.txns.now) c.args.spans.now united spanned in
      subst (λ version. c.loop-next.steps ≡ after_writes united version c.args.steps.now)
      (to_z-of_z w64 c.args.version c.ranges.version)
      (c.loop-next.invariant.exact united spanned
      ∙ after_writes_all united c.loop-next.index (to_z w64 (of_z w64 c.args.version)) c.args.steps.now (all ∙ sym count));
}
