use Rattle.std.proofs.Common.{◌<◌, arith, length, sym, get_or, ◌∙◌, subst, take, inl, inr}
use Rattle.std.proofs.lemmas.List.{length-set, take_all}
use Rattle.keys.specs.Sorting.{begin_at, begins_of}
use Rattle.keys.proofs.Sorting.{no_headed}
use Rattle.keys.proofs.Kept.{not_true, none_last, last_before, EndsWith}
use Rattle.keys.proofs.Numbering.{AreNumberedSoFar, IsCounted, counted_few, counted_some, numbered_more, numbered_all, others_more}
use Rattle.keys.proofs.gap_runs.begin_numbers.number_begins.Given as given
use Rattle.keys.proofs.gap_runs.begin_numbers.number_begins.Goals.{
  Joined-place-eq0,
  then-place-eq0,
  then-place-eq0-via-then-place-eq0,
  then-place-eq0-via-else-place-eq0+then-not-have_same_begin,
  else-place-eq0+else-not-have_same_begin,
}
use Rattle.keys.proofs.gap_runs.begin_numbers.number_begins.Goals as goal

-- a range is counted unless it begins as the one before it
counted : (g : given.Over) (c : Joined-place-eq0 g)
    → IsCounted (begins_of (g.L.RangeList.ranges c.args.ranges.now) (take c.loop-place.place c.args.sorted.now))
    (begin_at (g.L.RangeList.ranges c.args.ranges.now) (get_or c.args.sorted.now c.loop-place.place no_headed).index)
    c.loop-place.begin_count c.if-place-eq0.begin_count
counted g c =
    let ranges = g.L.RangeList.ranges c.args.ranges.now in
    let all = c.args.sorted.now in
    let i = c.loop-place.place in
    let key = begin_at ranges (get_or all i no_headed).index in
    elim c.if-place-eq0.branch [
      | then-place-eq0 w ↦
          let differs : ¬ EndsWith (begins_of ranges (take i all)) key =
          elim w.then-place-eq0.branch [
            | then-place-eq0-via-then-place-eq0 v ↦
                subst (λ n. ¬ EndsWith (begins_of ranges (take n all)) key) (sym v.if-place-eq0.true) (none_last key)
            | then-place-eq0-via-else-place-eq0+then-not-have_same_begin v ↦
                λ last. not_true _ v.if-not-have_same_begin.true
                (v.have_same_begin.ensures.same.1 ((last_before ranges all i no_headed key v.if-place-eq0.false
                c.loop-place-test.true).0 last))
          ] in
          inr (differs, w.begin_count-is)
      | else-place-eq0+else-not-have_same_begin w ↦
          inl (
            (last_before ranges all i no_headed key w.if-place-eq0.false c.loop-place-test.true).1
                (w.have_same_begin.ensures.same.0 w.if-not-have_same_begin.false),
            w.begin_count-is,
          )
    ]

pub overflow_sub-runs : goal.overflow_sub-runs
overflow_sub-runs g c =
    let some = counted_some _ _ _ _ _ c.loop-place.invariant.numbered.1.kept
    c.loop-place.invariant.numbered.1.count (counted g (goal.at.overflow_sub-runs g c).Joined-place-eq0) in
    omega (arith, some)

pub loop-place-preserved : goal.loop-place-preserved
loop-place-preserved g c =
    let ranges = g.L.RangeList.ranges c.args.ranges.now in
    let all = c.args.sorted.now in
    let i = c.loop-place.place in
    let old = c.loop-place.invariant.numbered in
    let step = counted g (goal.at.loop-place-preserved g c).Joined-place-eq0 in
    let listed = c.requires.within i no_headed c.loop-place-test.true in
    let within : (get_or all i no_headed).index < length c.loop-place.runs =
    omega (arith, listed, c.loop-place.invariant.as_many) in
    record {
      as_many = length-set c.loop-place.runs (get_or all i no_headed).index _ ∙ c.loop-place.invariant.as_many;
      few = counted_few _ _ _ _ i c.loop-place.invariant.few step;
      numbered = numbered_more ranges all i old.0 c.loop-place.begin_count c.if-place-eq0.begin_count c.loop-place.runs
          c.loop-place-test.true c.requires.sorted old.1 step within;
      others = others_more all i c.args.runs.now c.loop-place.runs _ c.loop-place-test.true c.loop-place.invariant.others;
    }

pub returns-clause-numbered : goal.returns-clause-numbered
returns-clause-numbered g c =
    let old = c.loop-place.invariant.numbered in
    let entire = take_all c.loop-place.place c.args.sorted.now c.loop-place-test.false in (
      old.0,
      numbered_all _ _ _ _ _ (subst (λ hs. AreNumberedSoFar (g.L.RangeList.ranges c.args.ranges.now) hs old.0
          c.loop-place.begin_count c.loop-place.runs) entire old.1),
    )
