use Rattle.std.proofs.Common.{true, ◌≡◌, ◌∙◌, ap, [], None, refl, subst, append-nil, arith}
use Rattle.boundaries.specs.declared.store.Store.{Store}
use Rattle.boundaries.specs.declared.walk.LeafOutcome.TheVariants.{Raised}
use Rattle.boundaries.specs.EntryRun.{IsWrittenInLeaf}
use Rattle.boundaries.specs.Item.{Item}
use Rattle.boundaries.specs.Overwrite.{GivesEntire, IsOverwritten, IsPartOfPartitioned, before_end, before_start}
use Rattle.boundaries.specs.Subtree.{items_in}
use Rattle.boundaries.specs.Walk.{CanChange, IsChanged, IsRaised, IsRaisedAt, IsRaisedIn}
use Rattle.boundaries.proofs.ChangedLeaf.{leaf_stored}
use Rattle.boundaries.proofs.Nested.{start_before_end}
use Rattle.boundaries.proofs.RaisedLeaves.{part_of_raised, raised_tree, within_raised, written}
use Rattle.boundaries.proofs.Roots.{root_can}
use Rattle.boundaries.proofs.WrittenLeaf.{part_partitioned, raised}
use Rattle.boundaries.proofs.tree.Tree.overwrite.Goals.{In-Some, Then-write_in_leaf, in_default-via-in-None-1, in_default-via-in-Some+else-write_in_leaf}
use Rattle.boundaries.proofs.tree.Tree.overwrite.Goals as goal

-- the leaf of the last write, in the tree as it is
module _ (c : In-Some) where
  open c use {args.{self.{now.{store, root}}, new.{now as new}}, requires.{can_overwrite}, in-Some.{leaf}}

  there : IsRaisedIn store.nodes leaf root.height root.slot
  there = rw c.in-Some.is at can_overwrite.raised

  first_part : CanChange store.nodes 0 leaf.slot × IsPartOfPartitioned (before_start store.keys new) (items_in store.nodes 0 leaf.slot)
  first_part = part_of_raised store leaf (before_start store.keys new) root.height root.slot (root_can can_overwrite.can_change) there
      can_overwrite.can_change.wanted.part

  second_part : CanChange store.nodes 0 leaf.slot × IsPartOfPartitioned (before_end store.keys new) (items_in store.nodes 0 leaf.slot)
  second_part = part_of_raised store leaf (before_end store.keys new) root.height root.slot (root_can can_overwrite.can_change) there
      ([], [], rw append-nil can_overwrite.can_change.reach.searchable.partitioned)

pub write_in_leaf-requires : goal.write_in_leaf-requires
write_in_leaf-requires c =
    let h = (goal.at.write_in_leaf-requires c).In-Some in
    let first = first_part h in
    let second = second_part h in
    let can = c.requires.can_overwrite.can_change in record {
      can_write = record {
        sound = record { keyless = first.0.keyless; headed = can.reach.searchable.headed };
        live = first.0.subtree;
        some = first.0.some;
        room = first.0.room;
        key_room = can.wanted.room;
        from = part_partitioned _ _ first.1;
        to = part_partitioned _ _ second.1;
        none_removed = can.none_removed;
      };
    }

-- the leaf once the run was written over
done : (c : Then-write_in_leaf) → IsWrittenInLeaf c.args.self.now.store c.write_in_leaf.new.store c.in-Some.leaf c.args.new.now
done c = rw c.if-write_in_leaf.true at c.write_in_leaf.ensures.written

changed : (c : Then-write_in_leaf)
    → IsChanged c.args.self.now.store c.write_in_leaf.new.store 0 c.in-Some.leaf.slot (Raised c.in-Some.leaf)
changed c =
    let h = (goal.at.Then-write_in_leaf c).In-Some in
    let leaf = c.in-Some.leaf in
    let new = c.args.new.now in
    let old = c.args.self.now.store in
    let now = c.write_in_leaf.new.store in
    let done = done c in
    let gives = done.gives None in
    let was = items_in old.nodes 0 leaf.slot in
    let there = items_in now.nodes 0 leaf.slot in
    let first : Item = record { key = gives.first; version = new.version } in
    let given : IsOverwritten (before_start old.keys new) (before_end old.keys new) first gives.second None gives.ended was there =
    subst (λ o. IsOverwritten (before_start old.keys new) (before_end old.keys new) first gives.second o gives.ended was there)
    done.given_none gives.written in
    let answered : IsRaisedAt old.nodes now.nodes 0 leaf.slot leaf = record {
      there = refl;
      items = subst (λ v. IsRaised v was there) done.version (raised (before_start old.keys new) (before_end old.keys new)
          (start_before_end old.keys new) first gives.second gives.ended was there
          (part_partitioned _ _ (first_part h).1) done.some_before gives.some given);
      filled = λ low. done.filled;
      no_fewer = λ high. absurd (omega (arith, high));
    } in
    leaf_stored (Raised leaf) (first_part h).0 done.stored done.keys (λ e. absurd (cc))
    (λ other is. subst (IsRaisedAt old.nodes now.nodes 0 leaf.slot) (let same : leaf ≡ other = cc in same) answered)

pub returns : goal.returns
returns c =
    let at = goal.at.returns c in
    let h = at.In-Some in
    let done = done at.Then-write_in_leaf in
    let put = changed at.Then-write_in_leaf in
    let can = c.requires.can_overwrite.can_change in
    let old = c.args.self.now.store in
    let root = c.args.self.now.root in
    let leaf = c.in-Some.leaf in
    record {
      written = record {
        items = within_raised old leaf put (before_end old.keys c.args.new.now) (GivesEntire c.args.new.now old c.write_in_leaf.new.store)
            root.height root.slot (root_can can) (there h) can.reach.searchable.partitioned (done.gives None).some done.some_after done.gives;
        tree = rw c.in-Some.is (raised_tree leaf can.rooted (written old leaf put root.height root.slot (root_can can) (there h)).changed);
        keys = done.keys;
      };
    }

pub change-requires : goal.change-requires
change-requires c =
    let old = c.args.self.now in
    let can = c.requires.can_overwrite.can_change in
    let same : c.in_default.self ≡ old = elim c.in_default.branch [
      | in_default-via-in-None-1 w ↦ w.self-is
      | in_default-via-in-Some+else-write_in_leaf w ↦
          let kept = rw w.if-write_in_leaf.false at w.write_in_leaf.ensures.written in
          w.self-is ∙ ap (λ (s : Store). record old { store = s }) kept
    ] in
    record {
      can_change = rw same record {
        low = can.low;
        rooted = can.rooted;
        room = can.room;
        reach = can.reach;
        wanted = (refl, can.wanted);
        none_removed = can.none_removed;
      };
    }

pub returns-2 : goal.returns-2
returns-2 c =
    let old = c.args.self.now in
    let same : c.in_default.self ≡ old = elim c.in_default.branch [
      | in_default-via-in-None-1 w ↦ w.self-is
      | in_default-via-in-Some+else-write_in_leaf w ↦
          let kept = rw w.if-write_in_leaf.false at w.write_in_leaf.ensures.written in
          w.self-is ∙ ap (λ (s : Store). record old { store = s }) kept
    ] in
    record { written = rw same at c.change.ensures.changed }
