-- The leaf of the last write, in which the next one goes on: what becomes of the tree, whose other nodes stay as they are.
use Rattle.std.proofs.Common.{◌≡◌, ◌≢◌, inl, inr, ℕ, zero, suc, ◌+◌, Bool, true, false, List, [], ◌∷◌, ◌++◌, Option, None, Some, Any, length, take, drop, refl, sym, ap, ◌∙◌, subst, filter, arith, append-nil, append_assoc}
use Rattle.std.proofs.lemmas.Bool.{cases_Bool}
use Rattle.std.proofs.lemmas.Int.{ints}
use Rattle.std.proofs.lemmas.List.{get_or_default}
use Rattle.std.proofs.lemmas.List.Elements.{All-append, All-cons}
use Rattle.std.proofs.lemmas.Option.{slice_get-get_or}
use Rattle.keys.proofs.callers.SomeElement.{Any-first, Any-later}
use Rattle.arena.specs.Arena.{Arena}
use Rattle.boundaries.specs.declared.entry.NodeEntry.{NodeEntry}
use Rattle.boundaries.specs.declared.node.Node.{Node}
use Rattle.boundaries.specs.declared.walk.LeafOutcome.TheVariants.{Raised}
use Rattle.boundaries.specs.declared.walk.RaisedLeaf.{RaisedLeaf}
use Rattle.boundaries.specs.Item.{Item, Describes}
use Rattle.boundaries.specs.Overwrite.{IsPartOfPartitioned, part_of_part}
use Rattle.boundaries.specs.Path.{IsPartitioned, items_below, items_not_below, first_key}
use Rattle.boundaries.specs.Children.{child_at, items_of, AreChildren, IsRebalancedAt}
use Rattle.boundaries.specs.Subtree.{entries_at, items_in, slots_in}
use Rattle.boundaries.specs.Store.{IsRooted}
use Rattle.boundaries.specs.declared.node.TheConstants.{HALF_FULL}
use Rattle.boundaries.specs.declared.store.Store.{Store}
use Rattle.boundaries.specs.Walk.{CanChange, IsChanged, IsChangedWithin, IsNewTree, IsRaisedIn}
use Rattle.boundaries.proofs.callers.Partitions.{All-front, IsPartitioned-parts, none_fail, none_pass}
use Rattle.boundaries.proofs.callers.Times.{once_if_distinct}
use Rattle.boundaries.proofs.Changing.{changes_if_moves, moves_if_changes, moves_same}
use Rattle.boundaries.proofs.Frames.{IsRight}
use Rattle.boundaries.proofs.Sharing.{child_is}
use Rattle.boundaries.proofs.Stepping.{IsAt, around, child_can, here, items_split, live_beside, read_beside, split}
use Rattle.boundaries.proofs.Storing.{family_apart}
use Rattle.boundaries.proofs.Walked.{changed_above, child_filled, family, step_rebalanced, describes_written}

-- A tree of which a leaf was raised keeps its root.
pub raised_tree : {old new : Store} {root height : ℕ} (leaf : RaisedLeaf) → IsRooted old.nodes root height
    → IsChanged old new height root (Raised leaf) → IsNewTree old new root height (Some leaf)
raised_tree leaf was put = record {
  rooted = record {
    subtree = put.subtree;
    branches = λ above. omega (arith, was.branches above, (put.raised leaf refl).no_fewer above);
    distinct = put.changes.distinct;
    linked = omega (arith, put.changes.live, was.linked);
    keyless = put.changes.keyless;
  };
  spare = put.changes.spare;
  headed = put.headed;
  raised_is = (put.raised leaf refl).there;
}

some_passes : (p : Item → Bool) (xs : List Item) → filter p xs ≢ [] → Any (λ x. p x ≡ true) xs
some_passes p [] some = absurd (some refl)
some_passes p (x ∷ xs) some = elim (cases_Bool (p x)) [
  | inl t ↦ Any-first (λ x. p x ≡ true) x xs t
  | inr f ↦ Any-later (λ x. p x ≡ true) x xs (some_passes p xs (rw f at some))
]

-- A node stays as it is where its child's entry has the version of what came into the child.
module _ {old : Store} {height lower slot i x : ℕ} (at : IsAt old.nodes height lower slot i x) (leaf : RaisedLeaf)
    {new : Store} (put : IsChanged old new lower x (Raised leaf))
    (answered : (here at).version ≡ leaf.version) where
  abbrev a : Arena Node
  a = old.nodes

  abbrev b : Arena Node
  b = new.nodes

  abbrev es : List NodeEntry
  es = entries_at a slot

  read : entries_at b slot ≡ es
  read = read_beside at (moves_if_changes a b (slots_in a lower x) (slots_in b lower x) put.changes)

  right : IsRight b HALF_FULL lower (here at)
  right =
      let child : child_at es i ≡ x = child_is es i at.d at.within ∙ sym at.x_is in
      record {
        filled = rw (read, child, at.x_is) at (child_filled at put refl leaf refl);
        subtree = rw at.x_is at put.subtree;
        describes = subst (λ v. Describes (record (here at) { version = v }) (items_in b lower (here at).child)) (sym answered)
            (describes_written at put refl leaf refl (here at) (rw read (slice_get-get_or es i at.d at.within)) (omega (arith, ints, answered)));
      }

  children : AreChildren b HALF_FULL lower es
  children =
      let loose = family at put refl in
      let Right = IsRight b HALF_FULL lower in
      rw (split at) (All-append Right (take i es) (here at ∷ [] ++ drop (i + 1) es) (rw read at loose.family.before)
      (All-cons Right (here at) (drop (i + 1) es) right (rw read at loose.family.following)))

  made : IsRebalancedAt b b HALF_FULL lower slot
  made = record {
    subtree = (
      live_beside at (moves_if_changes a b (slots_in a lower x) (slots_in b lower x) put.changes),
      omega (arith, ap length read, at.can.some),
      rw read children,
    );
    items = refl;
    changes = changes_if_moves b b _ _ (moves_same b (slots_in b (suc lower) slot) _ put.changes.keyless
        (family_apart b HALF_FULL lower slot i (i + 1) (family at put refl)) (λ s. refl) refl);
  }

  there : IsRaisedIn b leaf (suc lower) slot
  there = rw read (
    i,
    here at,
    at.within,
    get_or_default es i (here at) at.d at.within,
    (answered, rw at.x_is at (put.raised leaf refl).there),
  )

  changed_kept : IsChanged old new height slot (Raised leaf)
  changed_kept = changed_above at put refl new made (Raised leaf) refl (λ is. absurd (cc))
      (λ other is. (is, (omega arith, subst (λ l. IsRaisedIn b l (suc lower) slot) (let same : leaf ≡ other = cc in same) there)))
      (record { few_less = omega arith; spare = omega arith; headed = put.headed; keeps = record { keys = refl; removed = refl } })

  items_kept : items_in b height slot ≡ around at (items_in b lower x)
  items_kept = (step_rebalanced at put refl new made).items_are

module _ (old : Store) (leaf : RaisedLeaf) where
  -- the node at a slot, and the child that leads to the leaf
  at_raised : (lower slot : ℕ) → CanChange old.nodes (suc lower) slot → (h : IsRaisedIn old.nodes leaf (suc lower) slot)
      → IsAt old.nodes (suc lower) lower slot h.0 h.1.child
  at_raised lower slot can (i, d, within, is, h) = record {
    can = can;
    next = refl;
    subtree = can.subtree;
    few = once_if_distinct _ can.distinct;
    within = within;
    d = d;
    x_is = ap (λ (e : NodeEntry). e.child) (sym is);
  }

  -- The leaf's items are a part of those of the subtree.
  pub part_of_raised : (is_below : ℕ → Bool) (height slot : ℕ) → CanChange old.nodes height slot → IsRaisedIn old.nodes leaf height slot
      → IsPartOfPartitioned is_below (items_in old.nodes height slot)
      → CanChange old.nodes 0 leaf.slot × IsPartOfPartitioned is_below (items_in old.nodes 0 leaf.slot)
  part_of_raised is_below zero slot can same part =
      subst (λ s. CanChange old.nodes 0 s × IsPartOfPartitioned is_below (items_in old.nodes 0 s)) same (can, part)
  part_of_raised is_below (suc lower) slot can h part =
      let at = at_raised lower slot can h in
      part_of_raised is_below lower h.1.child (child_can at) h.4.1
      (part_of_part is_below _ (items_in old.nodes lower h.1.child) _ (rw (items_split at) at part))

  module _ {new : Store} (put : IsChanged old new 0 leaf.slot (Raised leaf)) where
    -- a subtree once the leaf was changed
    pub record IsWritten (height slot : ℕ) : Type 0 where
      pub changed : IsChanged old new height slot (Raised leaf)
      pub before : List Item
      pub after : List Item
      pub was_is : items_in old.nodes height slot ≡ before ++ (items_in old.nodes 0 leaf.slot ++ after)
      pub now_is : items_in new.nodes height slot ≡ before ++ (items_in new.nodes 0 leaf.slot ++ after)

    pub written : (height slot : ℕ) → CanChange old.nodes height slot → IsRaisedIn old.nodes leaf height slot → IsWritten height slot
    written zero slot can same = rw same record {
      changed = put;
      before = [];
      after = [];
      was_is = sym (append-nil (items_in old.nodes 0 leaf.slot));
      now_is = sym (append-nil (items_in new.nodes 0 leaf.slot));
    }
    written (suc lower) slot can h =
        let at = at_raised lower slot can h in
        let w = written lower h.1.child (child_can at) h.4.1 in
        let answered = ap (λ (e : NodeEntry). e.version) (get_or_default (entries_at old.nodes slot) h.0 at.d h.1 at.within ∙ h.3) ∙ h.4.0 in
        record {
          changed = changed_kept at leaf w.changed answered;
          before = items_of old.nodes lower (take h.0 (entries_at old.nodes slot)) ++ w.before;
          after = w.after ++ items_of old.nodes lower (drop (h.0 + 1) (entries_at old.nodes slot));
          was_is = items_split at ∙ simp (w.was_is, append_assoc);
          now_is = items_kept at leaf w.changed answered ∙ simp (w.now_is, append_assoc);
        }

    -- The items of a tree of which the leaf was changed, that has items on both sides of a bound.
    pub within_raised : (is_below : ℕ → Bool) (Gives : Option ℕ → List Item → List Item → Type 0) (height slot : ℕ)
        → CanChange old.nodes height slot → IsRaisedIn old.nodes leaf height slot → IsPartitioned (λ x. is_below x.key) (items_in old.nodes height slot)
        → items_below is_below (items_in old.nodes 0 leaf.slot) ≢ [] → items_not_below is_below (items_in old.nodes 0 leaf.slot) ≢ []
        → ((next : Option ℕ) → Gives next (items_in old.nodes 0 leaf.slot) (items_in new.nodes 0 leaf.slot))
        → IsChangedWithin is_below Gives None (items_in old.nodes height slot) (items_in new.nodes height slot)
    within_raised is_below Gives height slot can there partitioned some_below some_after gives =
        let w = written height slot can there in
        let p = λ (x : Item). is_below x.key in
        let items = items_in old.nodes 0 leaf.slot in
        let parts = IsPartitioned-parts p w.before (items ++ w.after) (rw w.was_is at partitioned) in
        let rest = IsPartitioned-parts p items w.after parts.1 in
        record {
          before = w.before;
          leaf = items;
          changed = items_in new.nodes 0 leaf.slot;
          following = w.after;
          was_is = w.was_is;
          now_is = w.now_is;
          items_below = elim parts.2 [
            | inl all ↦ all
            | inr none ↦ absurd (some_below (none_pass p items (All-front (λ x. p x ≡ false) items w.after none)).0)
          ];
          failing = elim rest.2 [ inl all ↦ absurd (some_after (none_fail p items all).1) | inr none ↦ none ];
          found = some_passes p items some_below;
          gives = gives (first_key None w.after);
        }
