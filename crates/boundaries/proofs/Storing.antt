-- A node above a changed leaf, once it is stored.
use Rattle.std.proofs.Common.{◌≡◌, inl, inr, ℕ, suc, ◌+◌, ◌≤◌, List, [], ◌∷◌, ◌++◌, length, length-append, length-drop, length-take, append-nil, get_or, take, drop, Option, Some, None, refl, sym, ap, ap₂, subst, ◌∙◌, arith}
use Rattle.std.specs.Prelude.{IfSome, slice_set}
use Rattle.std.proofs.lemmas.List.{length-set}
use Rattle.std.specs.List.{All, Contains}
use Rattle.arena.specs.Arena.{Arena, IsLive, header_at, key_at, record_at, with_header}
use Rattle.boundaries.specs.declared.entry.NodeEntry.{NodeEntry}
use Rattle.boundaries.specs.declared.node.Node.{Node}
use Rattle.boundaries.specs.Item.{Item, Describes}
use Rattle.boundaries.specs.Node.{IsHeaded, entries_of}
use Rattle.boundaries.specs.Rebalancing.{AreTwo, CanMerge, CanRebalance, KeepsKeys, LosesOneAtMost}
use Rattle.boundaries.specs.Store.{AreHeaded}
use Rattle.boundaries.specs.declared.store.Store.{Store}
use Rattle.boundaries.specs.declared.node.TheConstants.{HALF_FULL}
use Rattle.boundaries.specs.Subtree.{entries_at, items_in, slots_in, IsSubtree}
use Rattle.boundaries.specs.Children.{entries_at_both, items_with, slots_with, slot_taken, Changes, items_of, slots_of, AreChildren, IsFamilyAt, IsRebalanced, IsRebalancedAt}
use Rattle.boundaries.proofs.callers.Times.{times, once_same, once_cases, once_if_distinct, times-append, times_unless_contains}
use Rattle.boundaries.proofs.Frames.{Agree, IsRight, entries_same, live_same}
use Rattle.boundaries.proofs.Changing.{Moves, moves_beside, moves_agree, moves_trans, moves_if_changes, changes_if_moves}
use Rattle.boundaries.proofs.Families.{items_of-append, times-slots_of, length-slots_of, live_children, holds}
use Rattle.boundaries.proofs.KnownKeys.{headed_header}
use Rattle.boundaries.proofs.Placing.{entries_from_header, live_one, put_entries, put_live, put_moves}
use Rattle.boundaries.proofs.Sharing.{middle_part, own_part, IsMade, around_two, child_is, entries_below, rebalanced_by, set_one}
use Rattle.boundaries.proofs.Rebalancing.{apart_pair, live_subtree, rebalanced_by_entry}
use Rattle.boundaries.proofs.callers.Partitions.{All-front, All-back}

-- what a node and its right neighbour, if any, are seen as afterwards
pub record Stored (a w : Arena Node) (least height slot : ℕ) (added : Option ℕ) (items : List Item) : Type 0 where
  pub items_are : items_with w height slot added ≡ items
  pub subtree : IsSubtree w least height slot
  pub neighbour : IfSome added (λ s. IsSubtree w least height s)
  pub changes : Changes a w (slots_in a height slot) (slots_with w height slot added)

module _ {a b : Arena Node} (height slot : ℕ) (now : List NodeEntry)
    (few : (s : ℕ) → times s (slots_in a (suc height) slot) ≤ 1) (live : IsLive a slot)
    (moves : Moves a b (slots_of a height (entries_at a slot)) (slots_of b height now)) where
  -- the node's own slot isn't touched below
  live_own : IsLive b slot
  live_own = live_same a b slot (moves.others slot (omega (arith, few slot, once_same slot)) live) live

  pub moves_own : Moves a b (slots_in a (suc height) slot) (slot ∷ slots_of b height now)
  moves_own = moves_beside a b _ _ (slot ∷ []) _ _ moves (λ s. omega arith) (λ s. omega arith) (omega arith) (omega arith) few
      (live_one a slot live)

  -- the node is stored, and so is its right neighbour, if any
  module _ {w : Arena Node} {least : ℕ} (right : AreChildren b least height now) {taken : List ℕ}
      (changes : Moves b w (slot ∷ []) (slot ∷ taken)) where
    below_kept : Agree b w (slots_of b height now)
    below_kept =
        moves_agree b w _ _ _ changes (live_children b least height now right) (λ s. omega (arith, moves_own.few s))

    moves_all : (all : List ℕ) → ((s : ℕ) → times s all ≡ times s (slot ∷ taken) + times s (slots_of b height now))
        → length all ≡ length (slot ∷ taken) + length (slots_of b height now) → Moves a w (slots_in a (suc height) slot) all
    moves_all all count len =
        moves_trans a b w _ _ _ moves_own (moves_beside b w _ _ (slots_of b height now) _ _ changes (λ s. omega arith) count
        (omega arith) len moves_own.few (live_children b least height now right))

pub stored : {a b w : Arena Node} (least height slot : ℕ) → ((s : ℕ) → times s (slots_in a (suc height) slot) ≤ 1)
    → IsLive a slot → (added : Option ℕ)
    → Moves a b (slots_of a height (entries_at a slot)) (slots_of b height (entries_at_both w slot added))
    → AreChildren b least height (entries_at_both w slot added) → 1 ≤ length (entries_at_both w slot added)
    → IfSome added (λ s. (1 ≤ length (entries_at w slot)) × (1 ≤ length (entries_at w s)))
    → IsLive w slot → IfSome added (λ s. IsLive w s) → Moves b w (slot ∷ []) (slot ∷ slot_taken added)
    → Stored a w least (suc height) slot added (items_of b height (entries_at_both w slot added))
stored {a} {b} {w} least height slot few live None moves right some both live_here live_added changes =
    let h = holds b w least height slot _ live_here refl some right (below_kept height slot _ few live moves right changes) in
    record {
      items_are = h.items;
      subtree = h.subtree;
      neighbour = tt;
      changes = changes_if_moves a w _ _ (subst (Moves a w _) (sym h.slots)
          (moves_all height slot _ few live moves right changes _ (λ s. omega arith) (omega arith)));
    }
stored {a} {b} {w} least height slot few live (Some s) moves right some both live_here live_added changes =
    let us = entries_at w slot in
    let vs = entries_at w s in
    let xs = slots_of b height us in
    let ys = slots_of b height vs in
    let agree = below_kept height slot _ few live moves right changes in
    let count = λ (q : ℕ). times-slots_of b height q us vs in
    let h = holds b w least height slot us live_here refl both.0 (All-front (IsRight b least height) us vs right)
    (λ q some. agree q (omega (arith, count q))) in
    let k = holds b w least height s vs live_added refl both.1 (All-back (IsRight b least height) us vs right)
    (λ q some. agree q (omega (arith, count q))) in
    record {
      items_are = cc (h.items, k.items, items_of-append b height us vs);
      subtree = h.subtree;
      neighbour = k.subtree;
      changes = changes_if_moves a w _ _ (subst (Moves a w _) (sym (ap₂ (λ l m. l ++ m) h.slots k.slots))
          (moves_all height slot _ few live moves right changes _ (λ q. omega (arith, count q, times-append q xs (s ∷ ys)))
          (omega (arith, length-slots_of b height us vs, length-append xs (s ∷ ys)))));
    }

-- the slots below a node and its own stand there once
pub family_apart : (a : Arena Node) (least height slot from to : ℕ) → IsFamilyAt a least height slot from to
    → (s : ℕ) → times s (slots_in a (suc height) slot) ≤ 1
family_apart a least height slot from to at s =
    let zs = slots_of a height (entries_at a slot) in
    let below : times s zs ≤ 1 = once_if_distinct zs at.family.distinct s in
    elim (once_cases s slot) [
      | inl same ↦ omega (arith, same.1, times_unless_contains s zs (subst (λ z. ¬ Contains zs z) same.0 at.apart))
      | inr other ↦ omega (arith, other.1, below)
    ]

-- a family's entries are made right, and the node with them put in its place
pub rebalanced_at : {a b w : Arena Node} {least height slot from to : ℕ} (node : Node) → IsLive a slot
    → IsFamilyAt a least height slot from to → IsRebalanced a b least height (entries_at a slot) (entries_of node)
    → 1 ≤ length (entries_of node) → w ≡ with_header b slot node → IsRebalancedAt a w least height slot
rebalanced_at {a} {b} {w} {least} {height} {slot} {from} {to} node live at rebalanced some put =
    let few = family_apart a least height slot from to at in
    let here : entries_at w slot ≡ entries_of node = put_entries b w slot node put in
    let then = rw (← here) at rebalanced in
    let moves = moves_if_changes a b _ _ then.changes in
    let s =
    stored least height slot few live None moves then.children (rw here some) tt (put_live b w slot node put) tt
    (put_moves b w slot node put (live_own height slot _ few live moves) moves.keyless) in
    record {
      subtree = s.subtree;
      items = s.items_are ∙ then.items;
      changes = s.changes;
    }

-- The child at the index of a node that can be rebalanced is live.
pub child_live : {store : Store} {slot i x : ℕ} (d : NodeEntry) → CanRebalance store slot i
    → x ≡ (get_or (entries_at store.nodes slot) i d).child → IsLive store.nodes x
child_live {store} {slot} {i} {x} d can x_is =
    live_subtree store.nodes HALF_FULL can.family.0 x (rw x_is (can.family.1.family.below i d can.within))

-- The entry at the index is made right where it lies.
pub entry_put : {store : Store} {height slot i x : ℕ} (d t : NodeEntry) (node : Node)
    → CanRebalance store slot i → IsFamilyAt store.nodes HALF_FULL height slot i (i + 1)
    → x ≡ (get_or (entries_at store.nodes slot) i d).child
    → t.child ≡ x → (IsSubtree store.nodes HALF_FULL height x → Describes t (items_in store.nodes height x))
    → HALF_FULL ≤ length (entries_at store.nodes x) → entries_of node ≡ slice_set (entries_at store.nodes slot) i t
    → IsRebalancedAt store.nodes (with_header store.nodes slot node) HALF_FULL height slot
entry_put {store} {height} {slot} {i} {x} d t node can family x_is child describes filled now_is =
    let a = store.nodes in
    let es = entries_at a slot in
    rebalanced_at node can.live family (rebalanced_by_entry a HALF_FULL height es (entries_of node) i x d t can.within x_is
    family.family can.sound.keyless child describes filled (now_is ∙ set_one es i t can.within))
    (omega (arith, ap length now_is, length-set es i t, can.within)) refl

-- Two children of a node, whose entries were read, are merged, or share their entries, while its own record stays as it is.
module _ {store : Store} {slot i : ℕ} {l : List NodeEntry} (d e : NodeEntry) (can : CanMerge store slot i)
    (read : l ≡ entries_at store.nodes slot) where
  abbrev a : Arena Node
  a = store.nodes

  abbrev es : List NodeEntry
  es = entries_at a slot

  abbrev pair : List NodeEntry
  pair = get_or es i d ∷ get_or es (i + 1) e ∷ []

  abbrev x : ℕ
  x = (get_or l i d).child

  abbrev y : ℕ
  y = (get_or l (i + 1) e).child

  pub both : AreTwo store x y
  both =
      let f = can.family in
      let live = live_subtree a HALF_FULL f.0 in
      rw read record {
        live_first = live (get_or es i d).child (f.1.family.below i d (omega (arith, can.within)));
        live_second = live (get_or es (i + 1) e).child (f.1.family.below (i + 1) e can.within);
        apart = apart_pair a HALF_FULL f.0 es i d e can.within f.1.family;
        sound = can.sound;
      }

  pub enough : HALF_FULL ≤ length (entries_at a x) + length (entries_at a y)
  enough = rw (read, ← child_is es i d (omega (arith, can.within)), ← child_is es (i + 1) e can.within) can.filled

  kept : {b : Arena Node} {now : List ℕ} → Changes a b (x ∷ y ∷ []) now → record_at b slot ≡ record_at a slot
  kept {b} {now} changes =
      let none = times_unless_contains slot _ can.family.1.apart in
      let part = middle_part a 0 i (i + 2) es pair (around_two es i d e can.within) slot in
      (moves_if_changes a b _ _ changes).others slot (rw read (omega (arith, none, part, own_part a can.family.0 es slot))) can.live

  pub still_live : {b : Arena Node} {now : List ℕ} → Changes a b (x ∷ y ∷ []) now → IsLive b slot
  still_live {b} {now} changes = live_same a b slot (kept changes) can.live

  pub read_again : {b : Arena Node} {now : List ℕ} {node : Node} → Changes a b (x ∷ y ∷ []) now
      → header_at b slot ≡ Some node → entries_of node ≡ es
  read_again {b} {now} {node} changes header =
      sym (entries_from_header b slot node header) ∙ entries_same a b slot (kept changes)

  -- The entries of the node are made right.
  pub remade : {between : Store} (new : List NodeEntry) (node : Node) → 1 ≤ length new
      → length (slots_of between.nodes 0 new) ≤ 2 → Changes a between.nodes (x ∷ y ∷ []) (slots_of between.nodes 0 new)
      → KeepsKeys store between → AreHeaded between → All (IsMade between.nodes HALF_FULL) new
      → entries_below between.nodes new ≡ entries_at a x ++ entries_at a y
      → entries_of node ≡ take i es ++ (new ++ drop (i + 2) es) → IsHeaded between.keys node
      → ((height : ℕ) → IsFamilyAt a HALF_FULL height slot i (i + 2)
      → IsRebalancedAt a (with_header between.nodes slot node) HALF_FULL height slot)
      × LosesOneAtMost store (record between { nodes = with_header between.nodes slot node }) slot
  remade {between} new node some few changes keeps headed made here now_is own_headed =
      let b = between.nodes in
      let few_less : length es ≤ length (entries_of node) + 1 =
      simp (now_is, length-append, length-take, length-drop) (omega (arith, can.within)) in
      let below : entries_below b new ≡ entries_below a pair = cc (append-nil (entries_at a (get_or es (i + 1) e).child)) in
      let moves = rw read at (moves_if_changes a b _ _ changes) in (
        λ height family. rebalanced_at node can.live family (rebalanced_by a HALF_FULL height i (i + 2) es pair family.family
            (around_two es i d e can.within) b _ new now_is (omega arith) made below moves) (omega (arith, few_less, can.within)) refl,
        record {
          few_less = omega (arith, few_less, ap length (put_entries b (with_header b slot node) slot node refl));
          spare = omega (arith, few, changes.live, changes.spare);
          headed = headed_header (key_at between.keys) b (with_header b slot node) slot node refl headed own_headed;
          keeps = record { keys = keeps.keys; removed = keeps.removed };
        },
      )
