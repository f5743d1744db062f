-- A subtree that stays as it is, and a leaf that is changed where it lies.
use Rattle.std.proofs.Common.{◌≡◌, ℕ, ◌≤◌, List, [], ◌∷◌, None, Some, filter, length, refl, sym, subst, arith}
use Rattle.std.proofs.lemmas.Option.{IfSome_then}
use Rattle.arena.specs.Arena.{Arena, IsLive, header_at, key_at, with_header}
use Rattle.boundaries.specs.declared.entry.NodeEntry.{NodeEntry}
use Rattle.boundaries.specs.declared.node.Node.{Node}
use Rattle.boundaries.specs.declared.walk.LeafOutcome.{LeafOutcome}
use Rattle.boundaries.specs.declared.walk.RaisedLeaf.{RaisedLeaf}
use Rattle.boundaries.specs.declared.walk.LeafOutcome.TheVariants.{Same, Raised}
use Rattle.boundaries.specs.Finding.{CanFind, CanStep}
use Rattle.boundaries.specs.Bound.{Keys, is_below}
use Rattle.boundaries.specs.Heads.{AllAreHeads}
use Rattle.boundaries.specs.Node.{IsHeaded, all_heads_of, entries_of}
use Rattle.boundaries.specs.Store.{AreHeaded, KeysStay}
use Rattle.boundaries.specs.declared.descent.Position.{Position}
use Rattle.boundaries.specs.declared.key_bound.KeyBound.{KeyBound}
use Rattle.boundaries.specs.declared.store.Store.{Store}
use Rattle.boundaries.specs.Item.{Item}
use Rattle.boundaries.specs.Overwrite.{IsPartOfPartitioned}
use Rattle.boundaries.specs.Rebalancing.{IsSound, IsStored}
use Rattle.boundaries.specs.Children.{slot_taken, slots_with, Changes}
use Rattle.boundaries.specs.Subtree.{entries_at, items_in, slots_in}
use Rattle.boundaries.specs.Walk.{CanChange, CanChangeLeaf, IsChanged, IsRaisedAt, added_by}
use Rattle.boundaries.proofs.callers.Times.{once_if_distinct}
use Rattle.boundaries.proofs.Changing.{changes_if_moves, moves_same}
use Rattle.boundaries.proofs.HeadAt.{entry_at}
use Rattle.boundaries.proofs.HeadCounts.{passing_inside}
use Rattle.boundaries.proofs.Headed.{headed_at}
use Rattle.boundaries.proofs.KnownKeys.{headed_header}
use Rattle.boundaries.proofs.Leaves.{entries_of_partitioned}
use Rattle.boundaries.proofs.Placing.{entries_from_header, put_live, put_moves}
use Rattle.boundaries.proofs.WrittenLeaf.{part_partitioned}

-- A subtree that stays as it is.
pub unchanged : (store : Store) (height slot : ℕ) → CanChange store.nodes height slot
    → AreHeaded store → IsChanged store store height slot Same
unchanged store height slot can headed = record {
  same = λ _. refl;
  raised = λ leaf e. absurd (cc);
  subtree = can.subtree;
  neighbour = tt;
  filled = tt;
  few_less = λ _ _. omega arith;
  changes = changes_if_moves store.nodes store.nodes _ _ (moves_same store.nodes (slots_in store.nodes height slot) _ can.keyless
      (once_if_distinct _ can.distinct) (λ s. refl) refl);
  taken = omega arith;
  headed = headed;
  keys = λ s live. refl;
}

-- A node whose header is put is stored.
pub put_stored_in : {old new : Store} (slot : ℕ) (node : Node) → new.nodes ≡ with_header old.nodes slot node → new.keys ≡ old.keys
    → IsLive old.nodes slot → IsSound old → IsHeaded old.keys node → IsStored old new slot None
put_stored_in {old} {new} slot node put keys live sound headed =
    let a = old.nodes in
    let b = new.nodes in
    let changes = changes_if_moves a b (slot ∷ []) (slot ∷ []) (put_moves a b slot node put live sound.keyless) in
    record {
      live = put_live a b slot node put;
      live_added = tt;
      changes = changes;
      taken = omega (arith, changes.live, changes.spare);
      filled = tt;
      headed = subst (λ k. AllAreHeads (key_at k) (all_heads_of b)) (sym keys)
          (headed_header (key_at old.keys) a b slot node put sound.headed headed);
    }

pub put_stored : (store : Store) (slot : ℕ) (node : Node) → IsLive store.nodes slot → IsSound store → IsHeaded store.keys node
    → IsStored store (record store { nodes = with_header store.nodes slot node }) slot None
put_stored store slot node live sound headed = put_stored_in slot node refl refl live sound headed

-- A leaf that is stored, and its right neighbour if it is split.
pub leaf_stored : {old new : Store} {slot : ℕ} (outcome : LeafOutcome) → CanChange old.nodes 0 slot
    → IsStored old new slot (added_by outcome) → KeysStay old.keys new.keys → (outcome ≡ Same → new ≡ old)
    → ((leaf : RaisedLeaf) → outcome ≡ Raised leaf → IsRaisedAt old.nodes new.nodes 0 slot leaf) → IsChanged old new 0 slot outcome
leaf_stored {old} {new} {slot} outcome can stored keys same raised = record {
  same = same;
  raised = raised;
  subtree = stored.live;
  neighbour = stored.live_added;
  filled = IfSome_then (added_by outcome) stored.filled
      (λ s half. (half.left, half.right));
  few_less = λ high. absurd (omega (arith, high));
  changes = (elim (added_by outcome) as (λ o. Changes old.nodes new.nodes (slot ∷ []) (slot ∷ slot_taken o)
      → Changes old.nodes new.nodes (slot ∷ []) (slots_with new.nodes 0 slot o)) [ None ↦ λ c. c | Some s ↦ λ c. c ]) stored.changes;
  taken = omega (arith, stored.taken);
  headed = stored.headed;
  keys = keys;
}

-- In a leaf that may be changed, and that was read, the bound can be sought.
pub leaf_can_step : {bound : KeyBound} {Wants : Keys → List Item → Type 0} {store : Store} {position : Position} {leaf : Node}
    → CanChangeLeaf bound Wants store 0 position → header_at store.nodes position.slot ≡ Some leaf
    → CanStep store.keys bound leaf position.common_prefix_len
leaf_can_step {bound} {Wants} {store} {position} {leaf} can header =
    let read = entries_from_header store.nodes position.slot leaf header in
    record {
      can_find = record {
        headed = headed_at (key_at store.keys) store.nodes position.slot leaf can.headed header;
        partitioned = rw read at (entries_of_partitioned (is_below store.keys bound) (entries_at store.nodes position.slot) can.partitioned);
        some = rw read at can.changeable.some;
      };
      known = rw read at can.known;
    }

-- So can another bound that goes through items of which the leaf's are a part.
pub leaf_can_find : {keys : Keys} {bound : KeyBound} {leaf : Node} (nodes : Arena Node) (slot : ℕ) → CanFind keys bound leaf
    → (other : KeyBound) → header_at nodes slot ≡ Some leaf → IsPartOfPartitioned (is_below keys other) (items_in nodes 0 slot)
    → CanFind keys other leaf
leaf_can_find {keys} {bound} {leaf} nodes slot can other header part =
    let partitioned = entries_of_partitioned (is_below keys other) _ (part_partitioned (is_below keys other) (items_in nodes 0 slot) part) in
    record { headed = can.headed; partitioned = rw (entries_from_header nodes slot leaf header) at partitioned; some = can.some }

-- The first entry of a node that can be searched is below the bound.
pub first_below : {keys : Keys} {bound : KeyBound} {node : Node} {known : ℕ} → CanStep keys bound node known
    → 1 ≤ length (filter (λ e. is_below keys bound e.key) (entries_of node))
first_below {keys} {bound} {node} {known} can =
    let first = entry_at (entries_of node) 0 can.can_find.some in
    passing_inside (λ (e : NodeEntry). is_below keys bound e.key) (entries_of node) 0 first.0 can.can_find.partitioned first.1
    (can.known first.0 first.1).0
