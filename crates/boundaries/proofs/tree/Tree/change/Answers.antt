use Rattle.std.proofs.Common.{rules, None, refl, ◌∙◌, arith}
use Rattle.boundaries.specs.Bound.{is_below}
use Rattle.boundaries.specs.Children.{items_with}
use Rattle.boundaries.specs.Rebalancing.{KeepsKeys}
use Rattle.boundaries.specs.Subtree.{items_in}
use Rattle.boundaries.specs.declared.store.Store.{Store}
use Rattle.boundaries.specs.Walk.{IsChanged, IsChangedWithin, added_by}
use Rattle.boundaries.proofs.RaisedLeaves.{raised_tree}
use Rattle.boundaries.proofs.Roots.{root_can_change}
use Rattle.boundaries.proofs.tree.Tree.change.Given.{Over}
use Rattle.boundaries.proofs.tree.Tree.change.Goals.{After-change_leaf-outcome}
use Rattle.boundaries.proofs.tree.Tree.change.Goals as goal

pub change_leaf-outcome-requires : goal.change_leaf-outcome-requires
change_leaf-outcome-requires g c = rw c.position-start.ensures.position (search (rules, root_can_change c.requires.can_change))

-- the nodes of the tree, and its items, once a leaf is changed
put : (g : Over) (c : After-change_leaf-outcome g)
    → IsChanged c.args.self.now.store c.change_leaf-outcome.new.store c.args.self.now.root.height c.args.self.now.root.slot
    c.change_leaf-outcome.result
put g c = rw c.position-start.ensures.position at c.change_leaf-outcome.ensures.changed

-- what the change gives goes by the keys and by what is removed, which stay
within : (g : Over) (c : After-change_leaf-outcome g) (new : Store) → KeepsKeys c.change_leaf-outcome.new.store new
    → IsChangedWithin (is_below c.args.self.now.store.keys (g.C.LeafChange.bound_of c.args.change.now))
    (g.C.LeafChange.gives c.args.change.now c.change_leaf-outcome.new.change c.args.self.now.store new) None
    (items_in c.args.self.now.store.nodes c.args.self.now.root.height c.args.self.now.root.slot)
    (items_with c.change_leaf-outcome.new.store.nodes c.args.self.now.root.height c.args.self.now.root.slot
    (added_by c.change_leaf-outcome.result))
within g c new keeps =
    let old = c.args.self.now.store in
    let mid = c.change_leaf-outcome.new.store in
    let k = rw c.position-start.ensures.position at c.change_leaf-outcome.ensures.items in
    record {
      before = k.before;
      leaf = k.leaf;
      changed = k.changed;
      following = k.following;
      was_is = k.was_is;
      now_is = k.now_is;
      items_below = k.items_below;
      failing = k.failing;
      found = k.found;
      gives = g.met.C.LeafChange.kept c.args.change.now c.change_leaf-outcome.new.change old mid new _ _ _ keeps k.gives;
    }

pub grow-self-requires : goal.grow-self-requires
grow-self-requires g c =
    let can = c.requires.can_change in
    let put = rw c.in-Split.is at (put g (goal.at.grow-self-requires g c).After-change_leaf-outcome) in record {
      can_grow = record {
        sound = record { keyless = put.changes.keyless; headed = put.headed };
        low = can.low;
        first = put.subtree;
        second = put.neighbour;
        filled = record { left = put.filled.0; right = put.filled.1 };
        distinct = put.changes.distinct;
        linked = omega (arith, put.changes.live, can.rooted.linked);
        room = omega (arith, put.taken, can.room);
      };
    }

pub shrink-self-requires : goal.shrink-self-requires
shrink-self-requires g c =
    let put = rw c.in-Changed.is at (put g (goal.at.shrink-self-requires g c).After-change_leaf-outcome) in record {
      can_shrink = record {
        sound = record { keyless = put.changes.keyless; headed = put.headed };
        subtree = put.subtree;
        distinct = put.changes.distinct;
        linked = omega (arith, put.changes.live, c.requires.can_change.rooted.linked);
      };
    }

pub returns-in-Split : goal.returns-in-Split
returns-in-Split g c =
    let at = (goal.at.returns-in-Split g c).After-change_leaf-outcome in
    let put = rw c.in-Split.is at (put g at) in
    let items = rw c.in-Split.is at (within g at c.grow-self.new.store c.grow-self.ensures.keeps) in
    let tree = c.grow-self.ensures.tree in
    record {
      changed = record {
        items = rw c.grow-self.ensures.items items;
        tree = record { rooted = tree.rooted; spare = tree.spare ∙ put.changes.spare; headed = tree.headed; raised_is = tt };
        keys = rw c.grow-self.ensures.keeps.keys put.keys;
      };
    }

pub returns-in-Changed : goal.returns-in-Changed
returns-in-Changed g c =
    let at = (goal.at.returns-in-Changed g c).After-change_leaf-outcome in
    let put = rw c.in-Changed.is at (put g at) in
    let items = rw c.in-Changed.is at (within g at c.shrink-self.new.store c.shrink-self.ensures.keeps) in
    let tree = c.shrink-self.ensures.tree in
    record {
      changed = record {
        items = rw c.shrink-self.ensures.items items;
        tree = record { rooted = tree.rooted; spare = tree.spare ∙ put.changes.spare; headed = tree.headed; raised_is = tt };
        keys = rw c.shrink-self.ensures.keeps.keys put.keys;
      };
    }

pub returns-in-Same : goal.returns-in-Same
returns-in-Same g c =
    let at = (goal.at.returns-in-Same g c).After-change_leaf-outcome in
    let put = rw c.in-Same.is at (put g at) in
    record {
      changed = record {
        items = rw c.in-Same.is at (within g at c.change_leaf-outcome.new.store (record { keys = refl; removed = refl }));
        tree = record {
          rooted = rw (put.same refl) c.requires.can_change.rooted;
          spare = put.changes.spare;
          headed = put.headed;
          raised_is = tt;
        };
        keys = put.keys;
      };
    }

pub returns-in-Raised : goal.returns-in-Raised
returns-in-Raised g c =
    let at = (goal.at.returns-in-Raised g c).After-change_leaf-outcome in
    let put = rw c.in-Raised.is at (put g at) in
    record {
      changed = record {
        items = rw c.in-Raised.is at (within g at c.change_leaf-outcome.new.store (record { keys = refl; removed = refl }));
        tree = raised_tree c.in-Raised.leaf c.requires.can_change.rooted put;
        keys = put.keys;
      };
    }
