use Rattle.std.proofs.Common.{◌-◌, ◌∙◌, sym, arith}
use Rattle.boundaries.specs.Node.{entries_of}
use Rattle.boundaries.proofs.HeadAt.{entry_at}
use Rattle.boundaries.proofs.HeadCounts.{passing_before, passing_inside}
use Rattle.boundaries.proofs.node.Node.lower_bound_back.Goals as goal

pub loop-count-preserved : goal.loop-count-preserved
loop-count-preserved c =
    let i = c.loop-count.count - 1 in
    let e = entry_at (entries_of c.args.self.now) i (omega (arith, c.loop-count-test.true, c.loop-count.invariant.0)) in
    let fails = sym (c.is_below_at.ensures.is_below e.0 e.1) ∙ c.if-not-is_below_at.true in
    (omega (arith, c.loop-count.invariant.0), passing_before _ _ i e.0 c.requires.can_find.partitioned e.1 fails)

pub returns-else-not-is_below_at : goal.returns-else-not-is_below_at
returns-else-not-is_below_at c =
    let i = c.loop-count.count - 1 in
    let e = entry_at (entries_of c.args.self.now) i (omega (arith, c.loop-count-test.true, c.loop-count.invariant.0)) in
    let passes = sym (c.is_below_at.ensures.is_below e.0 e.1) ∙ c.if-not-is_below_at.false in
    let more = passing_inside _ _ i e.0 c.requires.can_find.partitioned e.1 passes in
    record { count = record { within = c.loop-count.invariant.0; count_is = omega (arith, more, c.loop-count.invariant.1) } }
