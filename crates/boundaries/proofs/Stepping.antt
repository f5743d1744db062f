-- A node above the leaves, and one of its children.
use Rattle.std.proofs.Common.{◌≡◌, ℕ, suc, ◌+◌, ◌<◌, ◌≤◌, List, [], ◌∷◌, ◌++◌, length, append-nil, get_or, take, drop, sym, ap, ◌∙◌, arith}
use Rattle.arena.specs.Arena.{Arena, IsLive, record_at}
use Rattle.boundaries.specs.declared.entry.NodeEntry.{NodeEntry}
use Rattle.boundaries.specs.declared.node.Node.{Node}
use Rattle.boundaries.specs.Item.{Item}
use Rattle.boundaries.specs.Subtree.{entries_at, items_in, slots_in, IsSubtree}
use Rattle.boundaries.specs.declared.node.TheConstants.{HALF_FULL}
use Rattle.boundaries.specs.Walk.{CanChange}
use Rattle.boundaries.specs.Children.{child_at, items_of, slots_of}
use Rattle.boundaries.proofs.callers.Times.{times, once, once_same, distinct_if_once}
use Rattle.boundaries.proofs.Frames.{IsRight, entries_same, live_same}
use Rattle.boundaries.proofs.Changing.{Moves}
use Rattle.boundaries.proofs.Families.{items_of-append, times-slots_of}
use Rattle.boundaries.proofs.Sharing.{child_is, around_one}

-- the node at a slot, and the child at an index
pub record IsAt (a : Arena Node) (height lower slot i x : ℕ) : Type 0 where
  pub can : CanChange a height slot
  pub next : suc lower ≡ height
  pub subtree : IsSubtree a HALF_FULL (suc lower) slot
  pub few : (s : ℕ) → times s (slots_in a (suc lower) slot) ≤ 1
  pub within : i < length (entries_at a slot)
  pub d : NodeEntry
  pub x_is : x ≡ (get_or (entries_at a slot) i d).child

module _ {a : Arena Node} {height lower slot i x : ℕ} (at : IsAt a height lower slot i x) where
  abbrev es : List NodeEntry
  es = entries_at a slot

  abbrev pub here : NodeEntry
  here = get_or es i at.d

  pub split : es ≡ take i es ++ (here ∷ [] ++ drop (i + 1) es)
  split = around_one es i at.d at.within

  pub x_at : x ≡ child_at es i
  x_at = at.x_is ∙ sym (child_is es i at.d at.within)

  pub child_right : IsRight a HALF_FULL lower here
  child_right = at.subtree.2 i at.d at.within

  pub one_slots : (b : Arena Node) → slots_in b lower x ≡ slots_of b lower (here ∷ [])
  one_slots b = simp (at.x_is, append-nil)

  pub child_once : (s : ℕ) → once s slot + times s (slots_in a lower x) ≤ 1
  child_once s =
      let all = ap (λ l. times s (slots_of a lower l)) split in
      let parts = times-slots_of a lower s (take i es) (here ∷ [] ++ drop (i + 1) es) in
      let more = times-slots_of a lower s (here ∷ []) (drop (i + 1) es) in
      omega (arith, at.few s, ap (times s) (one_slots a))

  -- The child can be changed.
  pub child_can : CanChange a lower x
  child_can =
      let right = child_right in
      let filled : HALF_FULL ≤ length (entries_at a x) = rw at.x_is right.filled in
      record {
        subtree = rw at.x_is right.subtree;
        some = omega (arith, filled);
        branches = λ _. omega (arith, filled);
        distinct = distinct_if_once (slots_in a lower x) (λ s. omega (arith, child_once s));
        keyless = at.can.keyless;
        room = omega (arith, at.can.room, at.next);
      }

  -- the items of the node, with these in place of the child's
  abbrev pub around : List Item → List Item
  around middle = items_of a lower (take i es) ++ (middle ++ items_of a lower (drop (i + 1) es))

  pub items_split : items_in a height slot ≡ around (items_in a lower x)
  items_split =
      rw (← at.next, at.x_is) (ap (items_of a lower) split ∙ items_of-append a lower (take i es) (here ∷ [] ++ drop (i + 1) es))

  module _ {b : Arena Node} {now : List ℕ} (moves : Moves a b (slots_in a lower x) now) where
    -- the node's own slot stays
    kept_beside : record_at b slot ≡ record_at a slot
    kept_beside = moves.others slot (omega (arith, child_once slot, once_same slot)) at.subtree.0

    pub live_beside : IsLive b slot
    live_beside = live_same a b slot kept_beside at.subtree.0

    pub read_beside : entries_at b slot ≡ es
    read_beside = entries_same a b slot kept_beside
