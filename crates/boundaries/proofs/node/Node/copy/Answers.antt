use Rattle.std.proofs.Common.{arith, refl, ◌<◌, ◌≤◌, ap, length, get_or, length-take-le}
use Rattle.std.proofs.lemmas.List.Elements.{All-contains}
use Rattle.std.proofs.Math.Seq.{take-set-lt, map-set}
use Rattle.boundaries.proofs.Words.{IsKnown, head_at, entries_of, key_heads_of, keys_of}
use Rattle.boundaries.proofs.HeadAt.{entry_there}
use Rattle.boundaries.proofs.HeadChanges.{head_there, headed_set, key_agrees, key_there}
use Rattle.boundaries.proofs.Headed.{all_known}
use Rattle.boundaries.proofs.node.Node.copy.Goals as goal

pub returns : goal.returns
returns c =
    let most : node.len ≤ length node.entries = omega arith in
    let len = length-take-le node.len node.entries most in
    let from_inside : from < node.len = omega (arith, c.requires.from, len) in
    let to_inside : to < node.len = omega (arith, c.requires.to, len) in
    let set = take-set-lt node.len node.entries to (get_or node.entries from e) to_inside in
    let there = key_there node.entries node.len from e from_inside most is in
    record {
      entries = λ d at. cc (set, entry_there node.entries node.len from d e at);
      headed = λ bytes h. headed_set bytes (key_heads_of node) h _ to e.key (get_or node.heads from 0)
          (All-contains (IsKnown bytes) (keys_of (entries_of node)) e.key (all_known bytes (key_heads_of node) h) there)
          (key_agrees bytes (key_heads_of node) h e.key there)
          (head_there node.entries node.len from e from_inside most is (head_at bytes node.prefix_len) node.heads h.heads)
          (cc (simp map-set at (ap keys_of set))) refl (take-set-lt node.len node.heads to (get_or node.heads from 0) to_inside);
    }
  where
    open c use {args.{self.{now as node}, from, to}, index-self-from.{result as e, is}}
