use Rattle.std.proofs.Common.{ℕ, List, ◌∷◌, [], ◌++◌, length, map, take, ap, sym, ◌∙◌, append_assoc, arith}
use Rattle.std.specs.List.{flat_map}
use Rattle.std.proofs.lemmas.List.{take_all}
use Rattle.keys.specs.declared.range.Range.{Range}
use Rattle.wire.proofs.callers.Lists.{one_more}
use Rattle.batches_tasks.specs.Stats.{keys_of_range, spread_of}
use Rattle.batches_tasks.proofs.Adding.{lengths_last}
use Rattle.batches_tasks.proofs.stats.add_keys.Goals as goal

abbrev lengths : List Range → List ℕ
lengths ranges = map length (flat_map keys_of_range ranges)

pub loop-index-preserved : goal.loop-index-preserved
loop-index-preserved c before from =
    let rs = c.args.ranges.now in
    let i = c.loop-index.index in
    let r = c.get.result in
    rw (one_more rs i r c.get.ensures.range)
    (c.in_ok-add_range.ensures.added (before ++ lengths (take i rs)) (c.loop-index.invariant before from)
    ∙ ap spread_of (append_assoc before (lengths (take i rs)) (map length (keys_of_range r))
    ∙ ap (λ more. before ++ more) (sym (lengths_last keys_of_range (take i rs) r))))

pub returns : goal.returns
returns c = record {
  added = λ before from.
      let rs = c.args.ranges.now in
      let i = c.loop-index.index in
      c.loop-index.invariant before from
      ∙ ap (λ some. spread_of (before ++ lengths some)) (take_all i rs (omega (arith, c.loop-index-test.false, c.len-index-end.ensures.count)));
}
