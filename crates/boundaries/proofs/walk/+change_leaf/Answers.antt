use Rattle.std.proofs.Common.{◌≡◌, ◌+◌, ◌-◌, ℕ, suc, inl, inr, None, Bool, List, Option, length, take, drop, refl, sym, ap, subst, ◌∙◌, arith, rules}
use Rattle.std.proofs.lemmas.Option.{get_or_from_slice_get}
use Rattle.boundaries.specs.declared.entry.NodeEntry.{NodeEntry}
use Rattle.boundaries.specs.declared.store.Store.{Store}
use Rattle.boundaries.specs.Rebalancing.{KeepsKeys}
use Rattle.boundaries.specs.Bound.{is_below as below}
use Rattle.boundaries.specs.Item.{Item}
use Rattle.boundaries.specs.Node.{entries_of}
use Rattle.boundaries.specs.Path.{index_in}
use Rattle.boundaries.specs.Position.{IsFirstKnown}
use Rattle.boundaries.specs.Subtree.{entries_at, items_in}
use Rattle.boundaries.specs.declared.walk.LeafOutcome.TheVariants.{Same, Raised, Changed, Split}
use Rattle.boundaries.specs.declared.walk.RaisedLeaf.{RaisedLeaf}
use Rattle.boundaries.specs.declared.node.TheConstants.{HALF_FULL}
use Rattle.boundaries.specs.Children.{items_of}
use Rattle.boundaries.specs.Walk.{CanChangeLeaf, IsChangedWithin, added_by}
use Rattle.boundaries.proofs.callers.Times.{once_if_distinct}
use Rattle.boundaries.proofs.ChangedLeaf.{unchanged}
use Rattle.boundaries.proofs.FirstKeys.{known_below}
use Rattle.boundaries.proofs.HeadAt.{entry_at}
use Rattle.boundaries.proofs.Headed.{headed_at}
use Rattle.boundaries.proofs.Placing.{entries_from_header}
use Rattle.boundaries.proofs.Found.{read_partitioned, found, found_partitioned}
use Rattle.boundaries.proofs.Stepping.{IsAt, around, child_can, items_split}
use Rattle.boundaries.proofs.Walking.{within_at}
use Rattle.boundaries.proofs.Walked.{some_found, within_leaf, can_rebalance, can_insert, child_filled, family, raised_below, describes_written, step_rebalanced, changed_above, step_linked, linked_above}
use Rattle.boundaries.proofs.walk.+change_leaf.Given.{Over}
use Rattle.boundaries.proofs.walk.+change_leaf.Goals as goal
use Rattle.boundaries.proofs.walk.+change_leaf.Goals.{After-child-below, After-change_leaf}

pub change-requires : goal.change-requires
change-requires g t c = record { can_change = rw c.if-height-eq0.true at c.requires.can_change }

pub returns-then-height-eq0 : goal.returns-then-height-eq0
returns-then-height-eq0 g t c = rw c.if-height-eq0.true record {
  changed = c.change.ensures.changed;
  items = within_leaf _ _ _ _ _ (some_found c.args.store.now (g.C.LeafChange.bound_of c.args.change.now) c.args.position.slot c.args.position.common_prefix_len
      c.requires.can_change.changeable.some c.requires.can_change.known) c.change.ensures.items;
  bound = c.change.ensures.bound;
}

pub step-step-requires : goal.step-step-requires
step-step-requires g t c =
    let a = c.args.store.now.nodes in
    let can = c.requires.can_change in
    let node = c.header_ref-node.result.now in
    let header = c.header_ref-node.ensures.header in
    let read = entries_from_header a c.args.position.slot node header in
    let partitioned = read_partitioned a (HALF_FULL) c.args.height c.args.position.slot _ node _ c.if-height-eq0.false
    can.changeable.subtree can.partitioned header refl in
    rw c.bound.ensures.bound record {
      can_step = record {
        can_find = record {
          headed = headed_at _ a c.args.position.slot node can.headed header;
          partitioned = partitioned;
          some = omega (arith, ap length read, can.changeable.some);
        };
        known = rw read at can.known;
      };
    }

-- the node at the slot, and the child at which the walk goes on
module _ (g : Over) (t : ℕ) (c : After-child-below g t) where
  abbrev is_below : ℕ → Bool
  is_below = below c.args.store.now.keys (g.C.LeafChange.bound_of c.args.change.now)

  abbrev es : List NodeEntry
  es = entries_at c.args.store.now.nodes c.args.position.slot

  abbrev h : ℕ
  h = c.args.height - 1

  abbrev i : ℕ
  i = c.step-step.result.index

  abbrev x : ℕ
  x = c.child-below.result.slot

  read : es ≡ entries_of c.header_ref-node.result.now
  read = entries_from_header c.args.store.now.nodes c.args.position.slot c.header_ref-node.result.now c.header_ref-node.ensures.header

  index_is : i ≡ index_in is_below (entries_of c.header_ref-node.result.now)
  index_is = rw c.bound.ensures.bound at c.step-step.ensures.step.index_is

  at_child : IsAt c.args.store.now.nodes c.args.height h c.args.position.slot i x
  at_child =
      let next : suc h ≡ c.args.height = omega (arith, c.if-height-eq0.false) in
      let e = entry_at (entries_of c.header_ref-node.result.now) i c.step-step.ensures.step.within in
      record {
        can = c.requires.can_change.changeable;
        next = next;
        subtree = rw (← next) at c.requires.can_change.changeable.subtree;
        few = once_if_distinct _ (rw (← next) at c.requires.can_change.changeable.distinct);
        within = omega (arith, c.step-step.ensures.step.within, ap length read);
        d = e.0;
        x_is = c.child-below.ensures.child.slot e.0 e.1
            ∙ ap (λ (d : NodeEntry). d.child) (sym (get_or_from_slice_get es i e.0 e.0 (rw read e.1)));
      }

  -- The child can be changed.
  can_change_child : CanChangeLeaf (g.C.LeafChange.bound_of c.args.change.now) (g.C.LeafChange.wants c.args.change.now)
      c.args.store.now h c.child-below.result
  can_change_child =
      let at = at_child in
      let a = c.args.store.now.nodes in
      let L = HALF_FULL in
      let n = c.args.height in
      let can = c.requires.can_change in
      let node = c.header_ref-node.result.now in
      let header = c.header_ref-node.ensures.header in
      let child = c.child-below.ensures.child in
      let f = found a L n c.args.position.slot is_below node (entries_of node) i x c.if-height-eq0.false can.changeable.subtree
      can.partitioned header refl index_is child.slot in
      let known = known_below a L n c.args.position.slot is_below x f _ _ _ node i header index_is
      (rw c.bound.ensures.bound at c.step-step.ensures.step.knows) in
      record {
        changeable = child_can at;
        partitioned = found_partitioned a L n c.args.position.slot is_below x f;
        headed = can.headed;
        known = subst (IsFirstKnown c.args.store.now (g.C.LeafChange.bound_of c.args.change.now) x) (sym child.known) known;
        wanted = g.met.C.LeafChange.part c.args.change.now c.args.store.now.keys (items_of a h (take i es)) (items_in a h x)
            (items_of a h (drop (i + 1) es)) (rw (items_split at) at can.wanted);
        none_removed = can.none_removed;
      }

-- A leaf of the child is changed.
within : (g : Over) (t : ℕ) (c : After-change_leaf g t) (Gives : Option ℕ → List Item → List Item → Type 0)
    (now all : List Item) → (let k = (goal.at.After-change_leaf g t c).After-child-below in
    let below = IsChangedWithin (is_below g t k) Gives c.child-below.result.following in
    let here = IsChangedWithin (is_below g t k) Gives c.args.position.following in
    let a = c.args.store.now.nodes in
    all ≡ around (at_child g t k) now → below (items_in a (h g t k) (x g t k)) now
    → here (items_in a c.args.height c.args.position.slot) all)
within g t c Gives now all all_is changed =
    let k = (goal.at.After-change_leaf g t c).After-child-below in
    within_at (at_child g t k) (index_is g t k ∙ ap (index_in (is_below g t k)) (sym (read g t k))) Gives _ _ now all
    c.requires.can_change.partitioned (rw (← read g t k) at c.child-below.ensures.child.following) all_is changed

-- What the change gives of the leaf is the same once nodes above it are changed.
still : (g : Over) (t : ℕ) (c : After-change_leaf g t) (new : Store) → KeepsKeys c.change_leaf.new.store new
    → (let k = (goal.at.After-change_leaf g t c).After-child-below in
    let Within = λ (store : Store). IsChangedWithin (is_below g t k)
    (g.C.LeafChange.gives c.args.change.now c.change_leaf.new.change c.args.store.now store) c.child-below.result.following in
    (was now : List Item) → Within c.change_leaf.new.store was now → Within new was now)
still g t c new keeps was now changed = record {
  before = changed.before;
  leaf = changed.leaf;
  changed = changed.changed;
  following = changed.following;
  was_is = changed.was_is;
  now_is = changed.now_is;
  items_below = changed.items_below;
  failing = changed.failing;
  found = changed.found;
  gives = g.met.C.LeafChange.kept c.args.change.now c.change_leaf.new.change c.args.store.now c.change_leaf.new.store new _ _ _ keeps
      changed.gives;
}

pub change_leaf-requires : goal.change_leaf-requires
change_leaf-requires g t c κs low =
    let can = can_change_child g t (goal.at.change_leaf-requires g t c).After-child-below in
    (search rules, (search rules, can))

pub raise_entry-requires : goal.raise_entry-requires
raise_entry-requires g t c =
    let at = at_child g t (goal.at.raise_entry-requires g t c).After-child-below in
    record {
      can_raise = record {
        rebalance = can_rebalance at c.in-Raised.ensures.changed refl;
        filled = child_filled at c.in-Raised.ensures.changed refl _ refl;
      };
    }

pub rebalance_child-requires : goal.rebalance_child-requires
rebalance_child-requires g t c =
    let at = at_child g t (goal.at.rebalance_child-requires g t c).After-child-below in
    record { can_rebalance = can_rebalance at c.in-Changed.ensures.changed refl }

pub insert_child-requires : goal.insert_child-requires
insert_child-requires g t c =
    let at = at_child g t (goal.at.insert_child-requires g t c).After-child-below in
    record { can_insert = can_insert at c.in-Split.ensures.changed }

pub returns-in-Same : goal.returns-in-Same
returns-in-Same g t c =
    let here = goal.at.returns-in-Same g t c in
    let same = c.in-Same.ensures.changed.same refl in
    let at = at_child g t here.After-child-below in
    rw same record {
      changed = unchanged c.args.store.now c.args.height c.args.position.slot at.can c.requires.can_change.headed;
      items = within g t here.After-change_leaf _ _ _ (items_split at) (rw same at c.in-Same.ensures.items);
      bound = search rules;
    }

raised_not_same : (leaf : RaisedLeaf) → Raised leaf ≡ Same → ⊥
raised_not_same leaf is = cc

changed_not_same : Changed ≡ Same → ⊥
changed_not_same is = cc

changed_not_raised : (leaf : RaisedLeaf) → Changed ≡ Raised leaf → ⊥
changed_not_raised leaf is = cc

pub returns-in-Raised : goal.returns-in-Raised
returns-in-Raised g t c =
    let here = goal.at.returns-in-Raised g t c in
    let at = at_child g t here.After-child-below in
    let put = c.in-Raised.ensures.changed in
    let made = c.raise_entry.ensures.rebalanced (c.args.height - 1) (family at put refl) (describes_written at put refl _ refl) in
    let rest = c.raise_entry.ensures.rest in
    let answered = c.raise_entry.ensures.outcome in
    let alone : added_by c.raise_entry.result ≡ None =
    elim answered [ inl is ↦ ap added_by is | inr is ↦ ap added_by is.0 ] in
    let changed = changed_above at put refl c.raise_entry.new.self made c.raise_entry.result alone
    (λ e. elim answered [ inl is ↦ changed_not_same (sym is ∙ e) | inr is ↦ raised_not_same c.in-Raised.leaf (sym is.0 ∙ e) ])
    (λ leaf e. elim answered [
      | inl is ↦ absurd (changed_not_raised leaf (sym is ∙ e))
      | inr is ↦ (let same = sym is.0 ∙ e in (same, raised_below at put refl leaf is.1 (cc (same)) same))
    ]) rest in
    rw alone record {
      changed = changed;
      items = within g t here.After-change_leaf _ _ _ (step_rebalanced at put refl c.raise_entry.new.self made).items_are
          (still g t here.After-change_leaf _ rest.keeps _ _ c.in-Raised.ensures.items);
      bound = search rules;
    }

pub returns-in-Changed : goal.returns-in-Changed
returns-in-Changed g t c =
    let here = goal.at.returns-in-Changed g t c in
    let at = at_child g t here.After-child-below in
    let put = c.in-Changed.ensures.changed in
    let made = c.rebalance_child.ensures.rebalanced (c.args.height - 1) (family at put refl) in
    let rest = c.rebalance_child.ensures.rest in
    record {
      changed = changed_above at put refl c.rebalance_child.new.self made Changed refl changed_not_same (λ leaf is. absurd (changed_not_raised leaf is)) rest;
      items = within g t here.After-change_leaf _ _ _ (step_rebalanced at put refl c.rebalance_child.new.self made).items_are
          (still g t here.After-change_leaf _ rest.keeps _ _ c.in-Changed.ensures.items);
      bound = search rules;
    }

pub returns-in-Some : goal.returns-in-Some
returns-in-Some g t c =
    let here = goal.at.returns-in-Some g t c in
    let at = at_child g t here.After-child-below in
    let put = c.in-Some.ensures.stored in
    let keeps = c.in-Some.ensures.keeps in
    let step = step_linked at c.in-Split.ensures.changed (Split c.in-Some.added) c.in-Some.ensures.linked put keeps in
    record {
      changed = linked_above at c.in-Split.ensures.changed (Split c.in-Some.added) c.in-Some.ensures.linked put keeps
          (λ is. absurd (cc)) (λ leaf is. absurd (cc));
      items = within g t here.After-change_leaf _ _ _ step.items_are
          (still g t here.After-change_leaf _ keeps _ _ c.in-Split.ensures.items);
      bound = search rules;
    }

pub returns-in-None : goal.returns-in-None
returns-in-None g t c =
    let here = goal.at.returns-in-None g t c in
    let at = at_child g t here.After-child-below in
    let put = c.in-None.ensures.stored in
    let keeps = c.in-None.ensures.keeps in
    let step = step_linked at c.in-Split.ensures.changed Changed c.in-None.ensures.linked put keeps in
    record {
      changed = linked_above at c.in-Split.ensures.changed Changed c.in-None.ensures.linked put keeps (λ is. absurd (cc))
          (λ leaf is. absurd (cc));
      items = within g t here.After-change_leaf _ _ _ step.items_are
          (still g t here.After-change_leaf _ keeps _ _ c.in-Split.ensures.items);
      bound = search rules;
    }
