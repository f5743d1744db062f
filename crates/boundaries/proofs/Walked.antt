-- A subtree once a leaf of one of its children was changed, and its node was rebalanced.
use Rattle.std.proofs.Common.{◌≡◌, inl, inr, ℕ, suc, ◌+◌, ◌≤◌, Any, Bool, true, false, List, [], ◌∷◌, ◌++◌, Option, Some, None, is_some, length, length-append, set, take, drop, refl, sym, ap, subst, ◌∙◌, arith, append-nil}
use Rattle.std.specs.Prelude.{◌≢◌, ℤ, IfSome}
use Rattle.std.proofs.lemmas.List.{get_or-set_same, length-drop, length-set, length-take-le}
use Rattle.std.proofs.lemmas.List.Elements.{All-append, All-cons, All-nil}
use Rattle.std.proofs.lemmas.Option.{get_or_from_slice_get, slice_get-get_or}
use Rattle.arena.specs.Arena.{Arena, record_at}
use Rattle.boundaries.specs.declared.entry.NodeEntry.{NodeEntry}
use Rattle.boundaries.specs.declared.node.Node.{Node}
use Rattle.boundaries.specs.declared.walk.LeafOutcome.{LeafOutcome}
use Rattle.boundaries.specs.declared.walk.LeafOutcome.TheVariants.{Same, Raised, Split}
use Rattle.boundaries.specs.declared.walk.RaisedLeaf.{RaisedLeaf}
use Rattle.boundaries.specs.Bound.{is_below}
use Rattle.boundaries.specs.Item.{Item, item_of}
use Rattle.boundaries.specs.Position.{IsFirstKnown}
use Rattle.boundaries.specs.declared.key_bound.KeyBound.{KeyBound}
use Rattle.keys.proofs.callers.SomeElement.{Any-map}
use Rattle.boundaries.specs.Children.{child_at, entries_at_both, items_of, slots_of, slots_with, Changes, HasRaisedEntry, IsFamily, IsFamilyAt, IsLinked, IsRebalancedAt, DescribesWritten}
use Rattle.boundaries.specs.Splice.{AreHalfFull}
use Rattle.boundaries.specs.Subtree.{entries_at, items_in, slots_in, IsSubtree}
use Rattle.boundaries.specs.declared.node.TheConstants.{HALF_FULL}
use Rattle.boundaries.specs.Walk.{added_by, IsChanged, IsChangedWithin, IsRaisedIn}
use Rattle.boundaries.specs.Rebalancing.{CanInsertChild, CanRebalance, IsStored, KeepsKeys, LosesOneAtMost}
use Rattle.boundaries.specs.declared.store.Store.{Store}
use Rattle.boundaries.proofs.callers.Times.{distinct_if_once, none_or_some, once_same, times, times_if_contains}
use Rattle.boundaries.proofs.Changing.{Moves, changes_if_moves, moves_if_changes, moves_trans}
use Rattle.boundaries.proofs.Families.{Loose}
use Rattle.boundaries.proofs.Frames.{IsRight, below_of, raised_same}
use Rattle.boundaries.proofs.HeadAt.{entry_at}
use Rattle.boundaries.proofs.Replacing.{both_right, loose_at}
use Rattle.boundaries.proofs.Stepping.{IsAt, around, child_once, child_right, here, live_beside, one_slots, read_beside, split, x_at}
use Rattle.boundaries.proofs.Storing.{Stored, moves_own, stored}
use Rattle.boundaries.proofs.Walking.{raised_above, raised_at}

-- Some item of a leaf is below the bound, where its first key is.
pub some_found : (store : Store) (bound : KeyBound) (slot known : ℕ) → 1 ≤ length (entries_at store.nodes slot)
    → IsFirstKnown store bound slot known → Any (λ x. is_below store.keys bound x.key ≡ true) (items_in store.nodes 0 slot)
some_found store bound slot known some knows =
    let es = entries_at store.nodes slot in
    let first = entry_at es 0 some in
    Any-map item_of (λ (x : Item). is_below store.keys bound x.key ≡ true) es
    (0, first.0, some, get_or_from_slice_get es 0 first.0 first.0 first.1, (knows first.0 first.1).0)

-- The items of a leaf that was changed.
pub within_leaf : (is_below : ℕ → Bool) (Gives : Option ℕ → List Item → List Item → Type 0) (key : Option ℕ) (was now : List Item)
    → Any (λ x. is_below x.key ≡ true) was → Gives key was now → IsChangedWithin is_below Gives key was now
within_leaf is_below Gives key was now found gives = record {
  before = [];
  leaf = was;
  changed = now;
  following = [];
  was_is = sym (append-nil was);
  now_is = sym (append-nil now);
  items_below = All-nil (λ (x : Item). is_below x.key ≡ true);
  failing = All-nil (λ (x : Item). is_below x.key ≡ false);
  found = found;
  gives = gives;
}

-- Both parts of a node that was split have this many entries.
both_filled : (n : ℕ) (w : Arena Node) (slot : ℕ) (added : Option ℕ) → n ≤ HALF_FULL
    → IfSome added (λ s. AreHalfFull (entries_at w slot) (entries_at w s))
    → IfSome added (λ s. (n ≤ length (entries_at w slot)) × (n ≤ length (entries_at w s)))
both_filled n w slot None few half = tt
both_filled n w slot (Some s) few half = (omega (arith, half.left), omega (arith, half.right))

module _ {old : Store} {height lower slot i x : ℕ} (at : IsAt old.nodes height lower slot i x) where
  -- The child was changed, and wasn't split.
  module _ {between : Store} {outcome : LeafOutcome} (put : IsChanged old between lower x outcome)
      (entire : added_by outcome ≡ None) where
    abbrev b : Arena Node
    b = between.nodes

    moves : Moves old.nodes b (slots_in old.nodes lower x) (slots_in b lower x)
    moves = moves_if_changes old.nodes b _ _ (subst (λ o. Changes old.nodes b (slots_in old.nodes lower x) (slots_with b lower x o)) entire put.changes)

    loosened : Loose old.nodes b HALF_FULL lower (take i (entries_at old.nodes slot)) (here at ∷ []) (drop (i + 1) (entries_at old.nodes slot)) (here at ∷ [])
    loosened = loose_at at (here at ∷ []) (rw (one_slots at b) at moves)

    own : Moves old.nodes b (slots_in old.nodes (suc lower) slot) (slot ∷ slots_of b lower (entries_at old.nodes slot))
    own = moves_own lower slot (entries_at old.nodes slot) at.few at.subtree.0 (rw (split at) loosened.moves)

    pub family : IsFamilyAt b HALF_FULL lower slot i (i + 1)
    family =
        let Below = λ (e : NodeEntry). IsSubtree b HALF_FULL lower e.child in
        let all = All-append Below (take i (entries_at old.nodes slot)) (here at ∷ [] ++ drop (i + 1) (entries_at old.nodes slot)) (below_of b _ lower _ loosened.front)
        (All-cons Below (here at) (drop (i + 1) (entries_at old.nodes slot)) (rw at.x_is at put.subtree) (below_of b _ lower _ loosened.back)) in
        let loose : IsFamily b HALF_FULL lower (entries_at old.nodes slot) i (i + 1) = record {
          distinct = distinct_if_once (slots_of b lower (entries_at old.nodes slot)) (λ s. omega (arith, own.few s));
          below = rw (split at) all;
          before = loosened.front;
          following = loosened.back;
        } in
        record {
          family = rw (read_beside at moves) loose;
          apart = rw (read_beside at moves) (λ has. let below = times_if_contains slot (slots_of b lower (entries_at old.nodes slot)) has in
              absurd (omega (arith, own.few slot, once_same slot)));
        }

    -- The node can be rebalanced.
    pub can_rebalance : CanRebalance between slot i
    can_rebalance = record {
      sound = record { keyless = put.changes.keyless; headed = put.headed };
      live = live_beside at moves;
      within = rw (read_beside at moves) at.within;
      several = omega (arith, at.can.branches (omega (arith, at.next)), ap length (read_beside at moves));
      family = (lower, family);
    }

    -- The child's entry would be right with the version of what came in.
    pub describes_written : (leaf : RaisedLeaf) → outcome ≡ Raised leaf → DescribesWritten b lower slot i leaf.version
    describes_written leaf is = raised_at at b leaf.version (read_beside at moves) (put.raised leaf is).items

    -- The child has enough entries then.
    pub child_filled : (leaf : RaisedLeaf) → outcome ≡ Raised leaf
        → HALF_FULL ≤ length (entries_at b (child_at (entries_at b slot) i))
    child_filled leaf is =
        let answered = put.raised leaf is in
        let was : HALF_FULL ≤ length (entries_at old.nodes x) = rw at.x_is (child_right at).filled in
        let now : HALF_FULL ≤ length (entries_at b x) =
        elim (none_or_some lower) [
          | inl none ↦ answered.filled none
          | inr some ↦ omega (arith, answered.no_fewer some, was)
        ] in
        let child : x ≡ child_at (entries_at b slot) i = rw (read_beside at moves) (x_at at) in
        rw child at now

    -- The leaf is below the child's entry where that has its version, too.
    pub raised_below : {w : Arena Node} {version : ℤ} (leaf : RaisedLeaf) → HasRaisedEntry b w slot i version
        → version ≡ leaf.version → outcome ≡ Raised leaf
        → (length (entries_at b slot) ≤ length (entries_at w slot)) × IsRaisedIn w leaf (suc lower) slot
    raised_below {w} {version} leaf raises same is =
        let read = read_beside at moves in
        let new = record (here at) { version = leaf.version } in
        let apart : (s : ℕ) → 1 ≤ times s (slots_in b lower x) → s ≢ slot = λ s some own. (
        let none = moves.from slot (rw own at some) (omega (arith, child_once at slot, once_same slot)) in
        let dead : is_some (record_at old.nodes slot) ≡ false = ap is_some none in
        cc (dead, at.subtree.0)) in
        let there : IsRaisedIn w leaf lower (here at).child = rw at.x_is at (raised_same b w leaf lower x
        (λ s some. raises.others s (apart s some)) (put.raised leaf is).there) in
        let now : entries_at w slot ≡ set (entries_at old.nodes slot) i new =
        rw (read, same) at (raises.entry (here at) (rw read (slice_get-get_or (entries_at old.nodes slot) i at.d at.within))) in
        let count = length-set (entries_at old.nodes slot) i new in
        let found = get_or-set_same (entries_at old.nodes slot) i new new at.within in (
          omega (arith, ap length now, ap length read, count),
          rw now (i, new, omega (arith, count, at.within), found, (refl, there)),
        )

    -- The node was rebalanced.
    module _ (later : Store) (rebalanced : IsRebalancedAt b later.nodes HALF_FULL lower slot) where
      abbrev w : Arena Node
      w = later.nodes

      pub step_rebalanced : Stored old.nodes w HALF_FULL height slot None (around at (items_in b lower x))
      step_rebalanced = rw (← at.next) record {
        items_are = rebalanced.items ∙ ap (items_of b lower) (read_beside at moves ∙ split at)
            ∙ (simp (sym at.x_is, append-nil) at loosened.items);
        subtree = rebalanced.subtree;
        neighbour = tt;
        changes = changes_if_moves old.nodes w _ _ (moves_trans old.nodes b w _ (slots_in b (suc lower) slot) _ (rw (read_beside at moves) own)
            (moves_if_changes b w _ _ rebalanced.changes));
      }

      -- Whatever is told of the node, but that it stayed: that an item came into old.nodes leaf only where that is told of the child, too.
      pub changed_above : (answered : LeafOutcome) → added_by answered ≡ None → (answered ≡ Same → ⊥)
          → ((leaf : RaisedLeaf) → answered ≡ Raised leaf → (outcome ≡ Raised leaf)
          × ((length (entries_at b slot) ≤ length (entries_at w slot)) × IsRaisedIn w leaf (suc lower) slot))
          → LosesOneAtMost between later slot → IsChanged old later height slot answered
      changed_above answered alone other raised rest = record {
        same = λ is. absurd (other is);
        raised = λ leaf is. let h = raised leaf is in record {
          there = subst (λ n. IsRaisedIn w leaf n slot) at.next h.1.1;
          items = raised_above at leaf.version _ _ step_rebalanced.items_are (put.raised leaf h.0).items;
          filled = λ low. absurd (omega (arith, at.next, low));
          no_fewer = λ above. omega (arith, h.1.0, ap length (read_beside at moves));
        };
        subtree = step_rebalanced.subtree;
        neighbour = rw alone tt;
        filled = rw alone tt;
        few_less = λ above none. omega (arith, rest.few_less, ap length (read_beside at moves));
        changes = subst (λ o. Changes old.nodes w (slots_in old.nodes height slot) (slots_with w height slot o)) (sym alone)
            step_rebalanced.changes;
        taken = omega (arith, put.taken, rest.spare, at.next);
        headed = rest.headed;
        keys = rw rest.keeps.keys put.keys;
      }

  -- The child was split.
  module _ {between : Store} {s : ℕ} (put : IsChanged old between lower x (Split s)) where
    abbrev m : Arena Node
    m = between.nodes

    both_moves : Moves old.nodes m (slots_in old.nodes lower x) (slots_in m lower x ++ slots_in m lower s)
    both_moves = moves_if_changes old.nodes m _ _ put.changes

    -- The node can have one child more.
    pub can_insert : CanInsertChild between slot i s
    can_insert =
        let read = read_beside at both_moves in
        let child : x ≡ child_at (entries_at m slot) i = rw read (x_at at) in
        record {
          sound = record { keyless = put.changes.keyless; headed = put.headed };
          live = live_beside at both_moves;
          within = rw read at.within;
          some = omega (arith, rw child at put.filled.0);
          some_added = omega (arith, put.filled.1);
          room = omega (arith, put.taken, at.can.room, at.next);
        }

    -- The node was linked to both parts.
    module _ {later : Store} (outcome : LeafOutcome)
        (linked : IsLinked m (child_at (entries_at m slot) i) s (take i (entries_at m slot))
        (drop (i + 1) (entries_at m slot)) (entries_at_both later.nodes slot (added_by outcome)))
        (stored_at : IsStored between later slot (added_by outcome)) (keeps : KeepsKeys between later) where
      abbrev z : Arena Node
      z = later.nodes

      linked_here : IsLinked m x s (take i (entries_at old.nodes slot)) (drop (i + 1) (entries_at old.nodes slot)) (entries_at_both z slot (added_by outcome))
      linked_here = rw (x_at at) (rw (read_beside at both_moves) at linked)

      pub step_linked : Stored old.nodes z HALF_FULL height slot (added_by outcome)
          (around at (items_in m lower x ++ items_in m lower s))
      step_linked =
          let t = linked_here.first in
          let u = linked_here.second in
          let first = linked_here.first_child in
          let second = linked_here.second_child in
          let slots : slots_in m lower x ++ slots_in m lower s ≡ slots_of m lower (t ∷ u ∷ []) =
          simp (first, second, append-nil) in
          let l = loose_at at (t ∷ u ∷ []) (rw slots at both_moves) in
          let right = both_right m HALF_FULL lower x s t u first second put.subtree put.neighbour put.filled
          linked_here.first_describes linked_here.second_describes in
          let Right = IsRight m HALF_FULL lower in
          let all = All-append Right (take i (entries_at old.nodes slot)) (t ∷ u ∷ drop (i + 1) (entries_at old.nodes slot)) l.front
          (All-append Right (t ∷ u ∷ []) (drop (i + 1) (entries_at old.nodes slot)) right l.back) in
          let some : 1 ≤ length (entries_at_both z slot (added_by outcome)) =
          omega (arith, ap length linked_here.entries, length-append (take i (entries_at old.nodes slot)) (t ∷ u ∷ drop (i + 1) (entries_at old.nodes slot))) in
          let k = stored HALF_FULL lower slot at.few at.subtree.0 (added_by outcome)
          (rw (split at, linked_here.entries) l.moves) (rw linked_here.entries all) some
          (both_filled 1 z slot _ (omega arith) stored_at.filled) stored_at.live stored_at.live_added
          (moves_if_changes m z _ _ stored_at.changes) in
          let items : items_of m lower (entries_at_both z slot (added_by outcome)) ≡ around at _ =
          ap (items_of m lower) linked_here.entries ∙ (simp (first, second, append-nil) at l.items) in
          rw (← at.next, ← items) k

      pub linked_above : (outcome ≡ Same → ⊥) → ((leaf : RaisedLeaf) → outcome ≡ Raised leaf → ⊥)
          → IsChanged old later height slot outcome
      linked_above other kept = record {
        same = λ is. absurd (other is);
        raised = λ leaf is. absurd (kept leaf is);
        subtree = step_linked.subtree;
        neighbour = step_linked.neighbour;
        filled = both_filled HALF_FULL z slot _ (omega arith) stored_at.filled;
        few_less = λ above none. (
            let is : entries_at z slot ≡ take i (entries_at old.nodes slot) ++ (linked_here.first ∷ linked_here.second ∷ drop (i + 1) (entries_at old.nodes slot)) =
            ap (entries_at_both z slot) (sym none) ∙ linked_here.entries in
            omega (
              arith,
              ap length is,
              length-append (take i (entries_at old.nodes slot)) (linked_here.first ∷ linked_here.second ∷ drop (i + 1) (entries_at old.nodes slot)),
              length-take-le i (entries_at old.nodes slot) (omega (arith, at.within)),
              length-drop (i + 1) (entries_at old.nodes slot),
            )
            );
        changes = step_linked.changes;
        taken = omega (arith, put.taken, stored_at.taken, at.next);
        headed = stored_at.headed;
        keys = rw keeps.keys put.keys;
      }
