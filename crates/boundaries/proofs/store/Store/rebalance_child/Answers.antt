use Rattle.std.proofs.Common.{◌≡◌, ◌≤◌, ◌-◌, length, get_or, refl, sym, ap, ◌∙◌, arith, rules}
use Rattle.std.proofs.lemmas.List.{length-set}
use Rattle.arena.specs.Arena.{with_header}
use Rattle.boundaries.specs.declared.entry.NodeEntry.{NodeEntry}
use Rattle.boundaries.specs.Subtree.{entries_at}
use Rattle.boundaries.specs.declared.node.TheConstants.{HALF_FULL}
use Rattle.boundaries.proofs.KnownKeys.{headed_header}
use Rattle.boundaries.proofs.Placing.{entries_from_header, put_entries}
use Rattle.boundaries.proofs.Rebalancing.{filled_pair, widened}
use Rattle.boundaries.proofs.Storing.{child_live, entry_put}
use Rattle.boundaries.proofs.store.Store.rebalance_child.Goals as goal
use Rattle.boundaries.proofs.store.Store.rebalance_child.Goals.{After-index-entries-index}

-- the child at the index
child_is : (c : After-index-entries-index)
    → (get_or c.entries.result.now c.args.index c.index-entries-index.result).child
    ≡ (get_or (entries_at c.args.self.now.nodes c.args.slot) c.args.index c.index-entries-index.result).child
child_is c =
    let read = entries_from_header c.args.self.now.nodes c.args.slot c.header_ref.result.now c.header_ref.ensures.header in
    rw (c.entries.ensures.entries, read) refl

pub header_ref-requires-2 : goal.header_ref-requires-2
header_ref-requires-2 c = record {
  live = child_live c.index-entries-index.result c.requires.can_rebalance
      (child_is (goal.at.header_ref-requires-2 c).After-index-entries-index);
}

pub merge_or_redistribute-requires : goal.merge_or_redistribute-requires
merge_or_redistribute-requires c =
    let L = HALF_FULL in
    let j_is : j ≡ i - 1 = c.saturating_sub.ensures in record {
      can_merge = record {
        sound = can.sound;
        live = can.live;
        within = omega (arith, can.within, can.several, j_is);
        filled = filled_pair a L can.family.0 slot i j can.family.1 j_is c.index-entries-index.result can.within can.several;
        family = (can.family.0, widened a L can.family.0 slot i j can.family.1 j_is);
      };
    }
  where
    open c use {args.{self.{now.{nodes as a}}, slot, index as i}, requires.{can_rebalance as can}, saturating_sub.{result as j}}

pub returns-then-len-lt-HALF_FULL : goal.returns-then-len-lt-HALF_FULL
returns-then-len-lt-HALF_FULL c = record {
  rebalanced = λ height family.
      c.merge_or_redistribute.ensures.rebalanced height (widened _ _ height _ _ _ family c.saturating_sub.ensures);
  rest = c.merge_or_redistribute.ensures.rest;
}

pub returns : goal.returns
returns c =
    let a = c.args.self.now.nodes in
    let slot = c.args.slot in
    let L = HALF_FULL in
    let node = c.set_with_head.new.self in
    let set = c.set_with_head.ensures in
    let can = c.requires.can_rebalance in
    let x = (get_or c.entries.result.now c.args.index c.index-entries-index.result).child in
    let x_is = child_is (goal.at.returns c).After-index-entries-index in
    let child = c.header_ref-2 in
    let len = ap length (entries_from_header a x child.result.now child.ensures.header) ∙ sym c.len.ensures.len in
    let filled : L ≤ length (entries_at a x) = omega (arith, len, c.if-len-lt-HALF_FULL.false) in
    let here = entries_from_header a slot c.header_mut-node.result.now c.header_mut-node.ensures.header in
    let now_is = put_entries a (with_header a slot node) slot node refl ∙ set.entries in
    let entry = c.entry_for-entry in
    record {
      rebalanced = λ height family. entry_put c.index-entries-index.result entry.result node can family x_is
          entry.ensures.child (entry.ensures.describes height L) filled (rw (← here) at set.entries);
      rest = record {
        few_less = omega (arith, ap length now_is, ap length here, length-set {A = NodeEntry});
        spare = search rules;
        headed = headed_header _ a (with_header a slot node) slot node refl can.sound.headed set.headed;
        keeps = record { keys = refl; removed = refl };
      };
    }
