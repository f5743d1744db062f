use Rattle.std.proofs.Common.{arith, refl, ◌≡◌, ◌∙◌, ◌≤◌, ◌-◌, [], length-take-le}
use Rattle.std.specs.List.{copy_within}
use Rattle.boundaries.proofs.Words.{entries_of, key_heads_of, NodeEntry}
use Rattle.boundaries.proofs.Entries.{take-removed}
use Rattle.boundaries.proofs.HeadChanges.{headed_removed, map_spliced}
use Rattle.boundaries.proofs.node.Node.remove.Goals as goal

pub returns : goal.returns
returns c =
    let most : to ≤ node.len = omega (arith, c.requires.within, length-take-le node.len node.entries (omega arith)) in
    let left : c.move_tail.new.self.len ≡ node.len - (to - from) = omega (arith, move.len) in
    let entries = take-removed node.entries (copy_within node.entries to node.len from) node.len from to (omega arith)
    c.requires.ordered most refl in
    let heads = take-removed node.heads (copy_within node.heads to node.len from) node.len from to (omega arith)
    c.requires.ordered most refl in
    let entries_are = move.entries ∙ rw (← left) at entries in
    record {
      entries = entries_are;
      headed = λ bytes h. headed_removed bytes (key_heads_of node) h _ from to
          (map_spliced (λ (e : NodeEntry). e.key) (entries_of node) [] _ from to entries_are) move.prefix_len (cc (move.heads));
    }
  where
    open c use {args.{self.{now as node}, from, to}, move_tail.{ensures as move}}
