use Rattle.std.proofs.lemmas.List.{length-append, take_all}
use Rattle.std.proofs.Common.{◌≡◌, ◌≤◌, ◌+◌, length, subst, arith, [], ◌∷◌, ◌++◌, ap, sym, ◌∙◌, map, take}
use Rattle.stepmap.specs.StepMap.{lengths}
use Rattle.conflict.proofs.Spanned.{spanned_at, spanned_count, lengths_same, map_next}
use Rattle.conflict.proofs.writes.gather_lengths.Goals as goal

pub range_of-requires : goal.range_of-requires
range_of-requires g c =
    let ranges = g.L.RangeList.ranges c.args.ranges.now in
    let at = spanned_at ranges c.args.spans.now c.requires.spanned.0 c.requires.spanned.1 c.loop-span.span-index
    (record { begin = 0; end = 0 }) c.loop-span-test.true in
    record { spans = (at.0, at.2) }

pub loop-span-preserved : goal.loop-span-preserved
loop-span-preserved g c =
    let ranges = g.L.RangeList.ranges c.args.ranges.now in
    let i = c.loop-span.span-index in
    let before = c.loop-span.lengths.items in
    let pushed : c.push.new.self.items ≡ before ++ c.of.result ∷ [] = c.in_ok-push.ensures.items in (
      λ united spanned.
          let at = spanned_at ranges c.args.spans.now united spanned i (record { begin = 0; end = 0 }) c.loop-span-test.true in
          let same : c.of.result ≡ lengths at.0 =
          c.of.ensures.lengths ∙ lengths_same c.range_of.ensures.spans at.2 in
          pushed ∙ ap (λ ls. ls ++ c.of.result ∷ []) (c.loop-span.invariant.0 united spanned)
          ∙ ap (λ l. map lengths (take i united) ++ l ∷ []) same
          ∙ sym (map_next lengths united i at.0 at.1),
      ap length pushed ∙ length-append before (c.of.result ∷ [])
          ∙ ap (λ n. n + 1) c.loop-span.invariant.1,
    )

pub returns-clause-lengths : goal.returns-clause-lengths
returns-clause-lengths g c = λ united spanned.
    let count = spanned_count (g.L.RangeList.ranges c.args.ranges.now) c.args.spans.now united spanned in
    c.loop-span.invariant.0 united spanned
    ∙ ap (map lengths) (take_all c.loop-span.span-index united (subst (λ n. n ≤ c.loop-span.span-index)
    (sym count) c.loop-span-test.false))

pub returns-clause-count : goal.returns-clause-count
returns-clause-count g c =
    omega (arith, c.loop-span.invariant.1, c.loop-span-test.false, c.loop-span.auto.span-index-end)
