use Rattle.std.proofs.Common.{arith, ◌≡◌, ◌≤◌, ◌+◌, ◌-◌, ◌++◌, length, length-take-le, take, drop}
use Rattle.boundaries.proofs.Words.{entries_of}
use Rattle.boundaries.proofs.Splicing.{take-spliced_before}
use Rattle.boundaries.proofs.node.Node.replace.Goals as goal
use Rattle.boundaries.proofs.node.Node.replace.Goals.{After-copy_few}

-- the new entries, between those before and those after them
module _ (c : After-copy_few) where
  within : c.args.to ≤ c.args.self.now.len
  within = omega (arith, c.requires.within, length-take-le c.args.self.now.len c.args.self.now.entries (omega arith))

  count : c.move_tail.new.self.len ≡ c.args.from + length c.args.new.now + (c.args.self.now.len - c.args.to)
  count = c.move_tail.ensures.len

  spliced : take c.move_tail.new.self.len (take c.args.from c.move_tail.new.self.entries ++ (c.args.new.now
      ++ drop (c.args.from + length c.args.new.now - c.args.from) (drop c.args.from c.move_tail.new.self.entries)))
      ≡ take c.args.from (entries_of c.args.self.now) ++ (c.args.new.now ++ drop c.args.to (entries_of c.args.self.now))
  spliced =
      let node = c.args.self.now in
      let now = c.move_tail.new.self in
      rw count
      (take-spliced_before node.entries now.entries c.args.new.now node.len c.args.from c.args.to (omega arith) c.requires.ordered
      within (omega (arith, c.requires.room, length-take-le node.len node.entries (omega arith)))
      (omega (arith, now.within, count)) (rw count at c.move_tail.ensures.entries))

pub returns-in-Some : goal.returns-in-Some
returns-in-Some c =
    let s = (goal.at.returns-in-Some c).After-copy_few in
    let same_len : length heads ≡ length new = rw c.in-Some.is at c.requires.same_len in
    let sum : now.len ≡ from + length heads + (node.len - to) = omega (arith, count s, same_len) in
    let len = length-take-le node.len node.entries (omega arith) in
    let entries = spliced s in
    let before = take-spliced_before node.heads now.heads heads node.len from to (omega arith) c.requires.ordered (within s)
    (omega (arith, c.requires.room, len, same_len)) (omega (arith, c.move_tail.ensures.size, now.within, count s))
    (cc (same_len, count s, c.move_tail.ensures.heads)) in
    rw c.in-Some.is record {
      entries = cc (c.copy_few.ensures.copied, entries);
      heads = record {
        prefix_len = c.move_tail.ensures.prefix_len;
        heads_are = cc (c.copy_few-in-Some.ensures.copied, before, same_len, sum);
      };
    }
  where
    open c use {args.{self.{now as node}, from, to, new.{now as new}}, move_tail.{new.{self as now}}, in-Some.{heads.{now as heads}}}

pub returns-in_default : goal.returns-in_default
returns-in_default c =
    let entries = spliced (goal.at.returns-in_default c).After-copy_few in
    rw c.in_default.is record { entries = cc (c.copy_few.ensures.copied, entries); heads = tt }
