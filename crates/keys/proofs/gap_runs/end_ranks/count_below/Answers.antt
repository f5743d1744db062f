use Rattle.std.proofs.Common.{◌≡◌, ℕ, ◌<◌, false, eqb, length, ap, not, sym, ◌∙◌, arith}
use Rattle.std.proofs.lemmas.Bool.{eqb-true, eqb-false}
use Rattle.keys.proofs.Galloping.{none_below, none_listed}
use Rattle.keys.proofs.gap_runs.end_ranks.count_below.Goals as goal

some_left : (n : ℕ) → eqb n 0 ≡ false → 0 < n
some_left n is = omega (arith, eqb-false n 0 is)

pub returns-then-is_empty-clause-following : goal.returns-then-is_empty-clause-following
returns-then-is_empty-clause-following g c =
    none_listed (g.L.RangeList.ranges c.args.ranges.now) c.args.sorted.now c.args.end.now
    (eqb-true (length c.args.sorted.now) 0 (sym c.is_empty.ensures ∙ c.if-is_empty.true))

pub returns-then-not-begins_below-clause-following : goal.returns-then-not-begins_below-clause-following
returns-then-not-begins_below-clause-following g c =
    none_below (g.L.RangeList.ranges c.args.ranges.now) c.args.sorted.now c.args.end.now c.requires.sorted
    (some_left (length c.args.sorted.now) (sym c.is_empty.ensures ∙ c.if-is_empty.false))
    (ap not (sym c.begins_below.ensures.below ∙ c.if-not-begins_below.true))
