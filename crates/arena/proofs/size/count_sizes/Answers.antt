use Rattle.std.proofs.Common.{◌<◌, ◌^◌, length, below_more, length-set, ◌∙◌, arith, rules}
use Rattle.std.proofs.lemmas.List.{get_or_default}
use Rattle.arena.proofs.Sizes.{size_fits, counted_more, wanted_of-bound}
use Rattle.arena.proofs.size.count_sizes.Goals as goal

pub bounds-counts-size_of : goal.bounds-counts-size_of
bounds-counts-size_of c = rw c.size_of.ensures.size (size_fits _ c.if-length-gt-MAX_LENGTH.false).0

pub overflow_add-counts : goal.overflow_add-counts
overflow_add-counts c =
    let below = rw (← c.size_of.ensures.size) at (size_fits _ c.if-length-gt-MAX_LENGTH.false).0 in
    let i = c.loop-length.length-index in
    let count = c.loop-length.invariant.counts c.size_of.result below in
    let bound = wanted_of-bound c.args.lengths.now i c.size_of.result (omega arith) in
    let fits : length c.args.lengths.now < 2 ^ 64 = search rules in
    omega arith

pub loop-length-preserved : goal.loop-length-preserved
loop-length-preserved c =
    let below = rw (← c.size_of.ensures.size) at (size_fits _ c.if-length-gt-MAX_LENGTH.false).0 in
    record {
      ten = length-set c.loop-length.counts c.size_of.result _ ∙ c.loop-length.invariant.ten;
      counts = λ s s_below.
          counted_more c.loop-length.counts c.args.lengths.now c.loop-length.length-index c.size_of.result s
          c.loop-length.invariant.ten below c.size_of.ensures.size c.loop-length-test.true
          (c.loop-length.invariant.counts s s_below);
      fit = below_more _ _ c.loop-length.invariant.fit c.if-length-gt-MAX_LENGTH.false;
    }

pub returns-clause-fit : goal.returns-clause-fit
returns-clause-fit c =
    λ k d within. rw (get_or_default c.args.lengths.now k d 0 within)
    (c.loop-length.invariant.fit k (omega arith))
