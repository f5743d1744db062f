use Rattle.std.proofs.Common.{◌≡◌, ◌<◌, ◌∙◌, true, false, refl, ap, arith}
use Rattle.std.specs.Prelude.{Some}
use Rattle.std.proofs.lemmas.Option.{get_or_from_slice_get, slice_get-get_or, slice_get_within}
use Rattle.keys.proofs.key_hashes.has_single.Goals as goal

pub returns-then-is_single : goal.returns-then-is_single
returns-then-is_single g c =
    let ranges = g.L.RangeList.ranges c.args.ranges.now in
    let i = c.loop-index.index in
    let range = c.range.result in
    let at = c.range.ensures.range in
    record {
      single = (
        λ _. (
          i,
          range,
          slice_get_within ranges i range at,
          get_or_from_slice_get ranges i range range at,
          c.is_single.ensures.single.0 c.if-is_single.true,
        ),
        λ _. refl,
      );
    }

pub returns : goal.returns
returns g c =
    let ranges = g.L.RangeList.ranges c.args.ranges.now in
    record {
      single = (
        λ found. let not_found : false ≡ true = found in cc,
        λ (k, range, within, is, single).
            let inside : k < c.loop-index.index = omega (arith, within, c.loop-index-test.false, c.len-index-end.ensures.count) in
            absurd (c.loop-index.invariant k range inside (slice_get-get_or ranges k range within ∙ ap Some is) single),
      );
    }
