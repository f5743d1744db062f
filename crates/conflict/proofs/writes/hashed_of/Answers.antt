use Rattle.std.proofs.Common.{◌≡◌, ◌∙◌, ◌<◌, List, length, refl, ap, sym, subst}
use Rattle.std.specs.Prelude.{Some, slice_get}
use Rattle.std.proofs.lemmas.Option.{slice_get_within}
use Rattle.keys.specs.declared.range.Range.{Range}
use Rattle.keyspace.specs.storage.BatchRanges.{ranges_in}
use Rattle.conflict.proofs.writes.hashed_of.Goals as goal

pub returns-then-span : goal.returns-then-span
returns-then-span c =
    let range = c.hashed_range.result in
    let there = c.hashed_range.ensures.range in
    record {
      spans = record {
        begins = (range, there, refl);
        ends = (range, subst (λ index. slice_get (ranges_in c.args.txns.now) index ≡ Some range) c.if-span.true there, refl);
      };
    }

pub get-first-requires : goal.get-first-requires
get-first-requires c =
    let begins = c.requires.spans.1.begins in
    record {
      within = subst (λ (ranges : List Range). c.args.span.begin < length ranges) (sym c.ranges-ranges.ensures.ranges)
          (slice_get_within (ranges_in c.args.txns.now) c.args.span.begin begins.0 begins.1);
    }

pub get-last-requires : goal.get-last-requires
get-last-requires c =
    let ends = c.requires.spans.1.ends in
    record {
      within = subst (λ (ranges : List Range). c.args.span.end < length ranges) (sym c.ranges-ranges.ensures.ranges)
          (slice_get_within (ranges_in c.args.txns.now) c.args.span.end ends.0 ends.1);
    }

pub returns : goal.returns
returns c =
    let same = c.ranges-ranges.ensures.ranges in
    let key = c.of.ensures.range in
    record {
      spans = record {
        begins = (
          c.get-first.result,
          ap (λ (ranges : List Range). slice_get ranges c.args.span.begin) (sym same) ∙ c.get-first.ensures.range,
          sym c.begin.ensures.bytes ∙ sym c.new.ensures.begin ∙ sym (ap (λ (r : Range). r.begin) key),
        );
        ends = (
          c.get-last.result,
          ap (λ (ranges : List Range). slice_get ranges c.args.span.end) (sym same) ∙ c.get-last.ensures.range,
          sym c.end.ensures.bytes ∙ sym c.new.ensures.end ∙ sym (ap (λ (r : Range). r.end) key),
        );
      };
    }
