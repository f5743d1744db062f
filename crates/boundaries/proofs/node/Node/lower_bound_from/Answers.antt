use Rattle.std.proofs.Common.{◌≡◌, ◌≤◌, ℕ, Bool, ◌+◌, ◌-◌, List, ap, sym, subst, filter, length, take, drop, arith}
use Rattle.boundaries.proofs.Words.{is_below, order, NodeEntry, IsLowerBound, entries_of}
use Rattle.boundaries.proofs.callers.Partitions.{IsPartitioned-range, length-items_below}
use Rattle.boundaries.proofs.HeadAt.{few_pass, many_pass}
use Rattle.boundaries.proofs.HeadCounts.{count_range}
use Rattle.boundaries.proofs.node.Node.lower_bound_from.Goals as goal
use Rattle.boundaries.proofs.node.Node.lower_bound_from.Goals.{in-Some, in-None, Joined-head}

pub lower_bound-requires : goal.lower_bound-requires
lower_bound-requires c =
    let range = c.match-head.from in
    let partitioned = rw (← c.entries.ensures.entries) at c.requires.can_find.partitioned in
    record { partitioned = IsPartitioned-range _ c.entries.result.now range.0 (range.1 - range.0) partitioned }

module _ (c : Joined-head) where
  abbrev es : List NodeEntry
  es = entries_of c.args.self.now

  abbrev passes : NodeEntry → Bool
  passes e = is_below c.args.keys.now c.args.bound e.key

  -- A part lies within the entries. Those that pass are the first ones and those of this part.
  abbrev IsPart : ℕ × ℕ → Type 0
  IsPart range = (range.0 ≤ range.1) × (range.1 ≤ length es)
      × (range.0 + length (filter passes (take (range.1 - range.0) (drop range.0 es))) ≡ length (filter passes es))

  -- So does the one that is looked at.
  parts : IsPart c.match-head.from
  parts =
      let can = c.requires.can_find in
      let order = order c.args.keys.now c.args.bound in
      elim c.match-head.branch [
        | in-Some w ↦
            let found = w.tied.ensures.tied in
            let is = rw w.in-Some.is at c.requires.head in
            let least = many_pass _ c.args.self.now can.headed _ _ order w.in-Some.head is can.partitioned c.args.from
            w.tied.result.0 c.requires.least (omega (arith, found.ordered, found.within)) found.below in
            let most = few_pass _ c.args.self.now can.headed _ _ order w.in-Some.head is can.partitioned
            w.tied.result.1 found.above in
            let sum = count_range passes es w.tied.result.0 w.tied.result.1 can.partitioned least most in
            subst IsPart (sym w.from-is) (found.ordered, found.within, sum)
        | in-None w ↦
            let most = length-items_below passes es in
            let len = w.len.ensures.len in
            let sum = count_range passes es c.args.from w.len.result can.partitioned c.requires.least (omega (arith, most)) in
            subst IsPart (sym w.from-is) (omega (arith, c.requires.least, most, len), omega (arith, len), sum)
      ]

  -- what is counted lies within the entries
  counted : (n : ℕ) → n ≡ length (filter passes es)
      → record { count : IsLowerBound (is_below c.args.keys.now c.args.bound) c.args.self.now n }
  counted n is = record { count = record { within = omega (arith, length-items_below passes es); count_is = is } }

pub returns-then-from-to : goal.returns-then-from-to
returns-then-from-to c =
    let s = (goal.at.returns-then-from-to c).Joined-head in
    let empty : c.match-head.from.1 - c.match-head.from.0 ≡ 0 = omega (arith, c.if-from-to.true) in
    counted s c.match-head.from.0 (omega (arith, rw empty at (parts s).2))

pub slice_bounds-lower_bound-end : goal.slice_bounds-lower_bound-end
slice_bounds-lower_bound-end c =
    let b = parts (goal.at.slice_bounds-lower_bound-end c).Joined-head in
    omega (arith, b.0, b.1, ap length c.entries.ensures.entries)

pub returns : goal.returns
returns c =
    let s = (goal.at.returns c).Joined-head in
    counted s _ (omega (arith, rw c.entries.ensures.entries at c.lower_bound.ensures.count, (parts s).2))
