use Rattle.std.proofs.Common.{◌≡◌, ◌⊎◌, ◌<◌, ◌∙◌, List, length, get_or, take, ◌+◌, [], true, false, inl, inr, sym, subst, arith}
use Rattle.std.proofs.lemmas.List.{get_or_default, take_all}
use Rattle.std.proofs.lemmas.Option.{slice_get_within}
use Rattle.keys.specs.Range.{IsEmpty, is_filled}
use Rattle.keys.specs.Singles.{IsRankedAs}
use Rattle.keys.specs.declared.range.Range.{Range}
use Rattle.keys.proofs.callers.GapRuns.{chosen_filled, empty_if}
use Rattle.conflict.specs.Union.{AreUnited}
use Rattle.conflict.proofs.UnionAdded.{united_none}
use Rattle.conflict.proofs.UnionOrder.{listed_ranges, listed_before, marked_next, unmarked_next, unites_picked}
use Rattle.conflict.proofs.union.Union.gather.Goals.{then-written-index+in_ok-add, else-written-index}
use Rattle.conflict.proofs.union.Union.gather.Goals as goal

-- a range that begins before its end isn't empty
not_empty : (range : Range) → is_filled range ≡ true → ¬ IsEmpty range
not_empty range filled empty = let none : is_filled range ≡ false = empty_if range empty in cc

pub loop-index-init : goal.loop-index-init
loop-index-init g c =
    let ranges = g.L.RangeList.ranges c.args.ranges.now in
    subst (λ spans. AreUnited ranges spans []) (sym c.clear.ensures.items) (united_none ranges)

pub bounds-written-index : goal.bounds-written-index
bounds-written-index g c =
    let ranges = g.L.RangeList.ranges c.args.ranges.now in
    let order = c.args.order.now in
    let i = c.loop-index.index-index in
    let index = get_or order i 0 in
    let inside : i < length order = c.loop-index-test.true in
    let are = c.requires.in_order in
    let filled = chosen_filled are.chosen ranges order are.in_order i 0 inside in
    omega (arith, slice_get_within ranges index filled.0 filled.1, c.requires.count)

-- a range is ranked as itself, or as an empty one
itself_or_empty : (checked : List Range) (range other : Range) → IsRankedAs checked range other
    → (other ≡ range) ⊎ IsEmpty other
itself_or_empty checked range other (inl same) = inl same
itself_or_empty checked range other (inr (empty, none)) = inr empty

pub add-requires-clause-runs : goal.add-requires-clause-runs
add-requires-clause-runs g c =
    let ranked = c.requires.ranked in
    let f = ranked.1.ranked_as in
    record {
      keys = ranked.1.keys;
      ranked_as = f;
      are_runs = c.runs-runs.ensures.runs ∙ ranked.1.are_runs;
      each = λ k d lt.
          let ranges = g.L.RangeList.ranges c.args.ranges.now in
          itself_or_empty ranked.0 (get_or ranges k d) (f (get_or ranges k d)) (ranked.1.each k d lt);
    }

pub add-requires-clause-spanned : goal.add-requires-clause-spanned
add-requires-clause-spanned g c = (c.loop-index.invariant.united, c.loop-index.invariant.spanned)

pub loop-index-preserved : goal.loop-index-preserved
loop-index-preserved g c =
    let ranges = g.L.RangeList.ranges c.args.ranges.now in
    let order = c.args.order.now in
    let marks = c.args.written.now in
    let i = c.loop-index.index-index in
    let index = get_or order i 0 in
    let inside : i < length order = c.loop-index-test.true in
    let is : get_or order i index ≡ index = get_or_default order i index 0 inside in
    let are = c.requires.in_order in
    let filled = chosen_filled are.chosen ranges order are.in_order i 0 inside in
    let range = filled.0 in
    let next = listed_ranges marks ranges (take (i + 1) order) in
    elim c.if-written-index.branch [
      | then-written-index+in_ok-add w ↦
          let more = w.in_ok-add.ensures.added range (listed_ranges marks ranges (take i order)) filled.1
          (not_empty range filled.2)
          (listed_before marks ranges order i index range are.in_order.in_order inside is filled.1)
          c.loop-index.invariant in
          subst (λ spans. AreUnited ranges spans next) (sym w.self-is)
          (subst (AreUnited ranges w.add.new.self) (marked_next marks ranges order i index inside is range filled.1
          w.if-written-index.true)
          more)
      | else-written-index w ↦
          subst (λ spans. AreUnited ranges spans next) (sym w.self-is)
          (subst (AreUnited ranges c.loop-index.self) (unmarked_next marks ranges order i index inside is
          w.if-written-index.false)
          c.loop-index.invariant)
    ]

pub returns : goal.returns
returns g c =
    let ranges = g.L.RangeList.ranges c.args.ranges.now in
    let order = c.args.order.now in
    let all = take_all c.loop-index.index-index order c.loop-index-test.false in
    let are = subst (λ is. AreUnited ranges c.loop-index.self (listed_ranges c.args.written.now ranges is)) all
    c.loop-index.invariant in
    record {
      united = (
        are.united,
        are.spanned,
        unites_picked c.args.written.now ranges order are.united c.requires.in_order are.unites,
      );
    }
