use Rattle.std.proofs.Common.{arith, refl, ◌≡◌, ◌∙◌, ◌≤◌, ◌-◌, length-take-le}
use Rattle.std.specs.List.{copy_within}
use Rattle.std.proofs.lemmas.Grind.{common_steps}
use Rattle.boundaries.proofs.Entries.{take-removed}
use Rattle.boundaries.proofs.node.Node.split_off.Goals as goal

pub returns : goal.returns
returns c =
    let most : at ≤ node.len = omega (arith, c.requires.within, length-take-le node.len node.entries (omega arith)) in
    let left : c.move_tail.new.self.len ≡ node.len - (at - 0) = omega (arith, move.len) in
    let heads = copy_within node.heads at node.len 0 in
    let moved = take-removed node.heads heads node.len 0 at (omega arith) (omega arith) most refl in
    record {
      left = grind (arith, common_steps);
      right = move.entries ∙ rw left (take-removed node.entries (copy_within node.entries at node.len 0) node.len 0 at (omega arith) (omega arith) most refl);
      left_heads = grind (arith, common_steps);
      right_heads = record { prefix_len = move.prefix_len; heads_are = cc (move.heads) };
    }
  where
    open c use {args.{self.{now as node}, at}, move_tail.{ensures as move}}
