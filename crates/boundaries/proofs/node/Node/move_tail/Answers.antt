use Rattle.std.proofs.Common.{◌≡◌, ◌≤◌, ◌+◌, ◌-◌, List, ap, ◌∙◌, take, length, arith, length-take-le}
use Rattle.std.specs.List.{copy_within}
use Rattle.std.proofs.lemmas.Slice.{take-put_mid_below}
use Rattle.boundaries.proofs.Words.{FAN_OUT}
use Rattle.boundaries.proofs.Splicing.{more_moved}
use Rattle.boundaries.proofs.node.Node.move_tail.Goals as goal
use Rattle.boundaries.proofs.node.Node.move_tail.Goals.{After-move_within-2}

-- the first elements of a list after what was moved to there
same : {X : Type 0} (c : After-move_within-2) (xs ys : List X) → length xs ≡ FAN_OUT
    → ys ≡ copy_within xs c.args.from (c.args.from + c.multiple_of_four-moved.result) c.args.to
    → take (c.args.to + (c.args.self.now.len - c.args.from)) ys
    ≡ take (c.args.to + (c.args.self.now.len - c.args.from)) (copy_within xs c.args.from c.args.self.now.len c.args.to)
same c xs ys size moved =
    let node = c.args.self.now in
    let len = length-take-le node.len node.entries (omega arith) in
    let within : c.args.from ≤ node.len = omega (arith, c.requires.within, len) in
    let turns = c.multiple_of_four-moved.ensures in
    ap (take (c.args.to + (node.len - c.args.from))) moved
    ∙ more_moved xs c.args.from node.len c.multiple_of_four-moved.result c.args.to within turns.least
    (omega (arith, within, turns.most, turns.least, size, c.max.ensures, c.requires.room, len))
    (omega (arith, within, turns.most, turns.least, size, c.max.ensures, c.requires.room, len))

pub returns-then-self-end-clause-entries : goal.returns-then-self-end-clause-entries
returns-then-self-end-clause-entries c =
    let at = (goal.at.returns-then-self-end-clause-entries c).After-move_within-2 in
    same at c.args.self.now.entries c.move_within.new.elements (omega arith) c.move_within.ensures.moved

pub returns-then-self-end-clause-heads : goal.returns-then-self-end-clause-heads
returns-then-self-end-clause-heads c =
    let at = (goal.at.returns-then-self-end-clause-heads c).After-move_within-2 in
    let moved = same at c.args.self.now.heads c.move_within-2.new.elements (omega arith) c.move_within-2.ensures.moved in
    let node = c.args.self.now in
    let n = c.args.to + (node.len - c.args.from) in
    take-put_mid_below n (node.len - n) c.move_within-2.new.elements c.fill.new.self n (omega arith) (omega (arith, c.if-self-end.true)) ∙ moved

pub returns-else-self-end-clause-entries : goal.returns-else-self-end-clause-entries
returns-else-self-end-clause-entries c =
    let at = (goal.at.returns-else-self-end-clause-entries c).After-move_within-2 in
    same at c.args.self.now.entries c.move_within.new.elements (omega arith) c.move_within.ensures.moved

pub returns-else-self-end-clause-heads : goal.returns-else-self-end-clause-heads
returns-else-self-end-clause-heads c =
    let at = (goal.at.returns-else-self-end-clause-heads c).After-move_within-2 in
    same at c.args.self.now.heads c.move_within-2.new.elements (omega arith) c.move_within-2.ensures.moved
