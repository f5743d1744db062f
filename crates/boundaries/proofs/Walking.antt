-- A change of one leaf, as the subtree above the leaf sees it.
use Rattle.std.proofs.Common.{◌≡◌, ◌⊎◌, inl, inr, ℕ, ◌+◌, Bool, true, false, List, [], ◌∷◌, ◌++◌, Option, Some, None, get_or, map, take, drop, All, Any, refl, sym, ◌∙◌, ap, subst, arith, append_assoc}
use Rattle.std.specs.Prelude.{ℤ, ◌≤ℤ◌}
use Rattle.std.proofs.lemmas.Int.{ints}
use Rattle.std.proofs.lemmas.List.Elements.{All-append, All-drop}
use Rattle.std.proofs.lemmas.List.{get_or_default}
use Rattle.std.proofs.lemmas.Option.{get_or_from_slice_get}
use Rattle.arena.specs.Arena.{Arena}
use Rattle.keys.proofs.callers.SomeElement.{Any-left, Any-none, Any-right}
use Rattle.boundaries.specs.declared.entry.NodeEntry.{NodeEntry}
use Rattle.boundaries.specs.declared.node.Node.{Node}
use Rattle.boundaries.specs.Item.{Item, Describes, item_of}
use Rattle.boundaries.specs.Path.{IsPartitioned, first_key, index_in}
use Rattle.boundaries.specs.Children.{items_of, DescribesWritten}
use Rattle.boundaries.specs.Subtree.{entries_at, items_in}
use Rattle.boundaries.specs.declared.node.TheConstants.{HALF_FULL}
use Rattle.boundaries.specs.Walk.{IsChangedWithin, IsRaised}
use Rattle.boundaries.proofs.Keys.{first_key-append, first_key-children}
use Rattle.boundaries.proofs.Stepping.{IsAt, child_right, items_split}
use Rattle.boundaries.proofs.Ways.{way}

-- Each version of items is that of one of them.
each_there : (xs : List Item) → All (λ x. Any (λ w. x.version ≡ w.version) xs) xs
each_there xs k d within = (k, get_or xs k d, within, get_or_default xs k (get_or xs k d) d within, refl)

same_first : (key : Option ℕ) (xs ys : List Item) → first_key None xs ≡ first_key None ys
    → first_key key xs ≡ first_key key ys
same_first key [] [] e = refl
same_first key [] (y ∷ ys) e = absurd (cc)
same_first key (x ∷ xs) [] e = absurd (cc)
same_first key (x ∷ xs) (y ∷ ys) e = e

-- The entry that told the items tells what they are now, once it has the version of what came in, unless it has a greater one.
describes_raised : (e : NodeEntry) (version : ℤ) (was now : List Item) → Describes e was → IsRaised version was now
    → e.version ≤ℤ version → Describes (record e { version = version }) now
describes_raised e version was [] describes raised le = absurd (Any-none (λ (x : Item). x.version ≡ version) raised.there)
describes_raised e version was (x ∷ xs) describes raised le =
    let same : Some x.key ≡ Some describes.first.key = raised.first ∙ ap (first_key None) describes.items_are in
    let key : describes.first.key ≡ x.key = cc in
    record {
      first = x;
      others = xs;
      items_are = refl;
      key = describes.key ∙ key;
      greatest = record {
        bound = λ k d within. elim (raised.others k d within) [
          | inl same ↦ omega (arith, ints, same)
          | inr there ↦
              let least = rw there.3 at (describes.greatest.bound there.0 there.1 there.2) in
              omega (arith, ints, there.4, least, le)
        ];
        reached = raised.there;
      };
    }

module _ {a : Arena Node} {height lower slot i x : ℕ} (at : IsAt a height lower slot i x) where
  abbrev es : List NodeEntry
  es = entries_at a slot

  abbrev front : List Item
  front = items_of a lower (take i es)

  abbrev part : List Item
  part = items_in a lower x

  abbrev back : List Item
  back = items_of a lower (drop (i + 1) es)

  -- A leaf of the child, at which a bound goes on, is changed.
  pub within_at : {is_below : ℕ → Bool} → i ≡ index_in is_below es → (Gives : Option ℕ → List Item → List Item → Type 0)
      (key below_key : Option ℕ) (now all : List Item) → IsPartitioned (λ x. is_below x.key) (items_in a height slot)
      → below_key ≡ first_key key (map item_of (drop (i + 1) es)) → all ≡ front ++ (now ++ back)
      → IsChangedWithin is_below Gives below_key part now
      → IsChangedWithin is_below Gives key (items_in a height slot) all
  within_at {is_below} index Gives key below_key now all partitioned key_is all_is c =
      let Passes = λ (x : Item). is_below x.key ≡ true in
      let Fails = λ (x : Item). is_below x.key ≡ false in
      let QuestionAnswers = λ (e : NodeEntry). Describes e (items_in a lower e.child) in
      let w = way a HALF_FULL lower slot is_below at.subtree (rw (← at.next) at partitioned) in
      let below_is : below_key ≡ first_key key back = key_is ∙ first_key-children (λ (e : NodeEntry). items_in a lower e.child) key
      (drop (i + 1) es) (All-drop QuestionAnswers (i + 1) es (λ k d within. (at.subtree.2 k d within).describes)) in
      rw (items_split at, all_is) record {
        before = front ++ c.before;
        leaf = c.leaf;
        changed = c.changed;
        following = c.following ++ back;
        was_is = simp (c.was_is, append_assoc);
        now_is = simp (c.now_is, append_assoc);
        items_below = All-append Passes front c.before (rw (← index) at w.before) c.items_below;
        failing = All-append Fails c.following back c.failing (rw (← index) at w.following);
        found = c.found;
        gives = subst (λ k. Gives k c.leaf c.changed)
            (ap (λ k. first_key k c.following) below_is ∙ sym (first_key-append key c.following back)) c.gives;
      }

  -- An item of this version came into the child.
  pub raised_above : (version : ℤ) (now all : List Item) → all ≡ front ++ (now ++ back) → IsRaised version part now
      → IsRaised version (items_in a height slot) all
  raised_above version now all all_is r =
      let Same = λ (x w : Item). x.version ≡ w.version in
      let Is = λ (x : Item). (x.version ≡ version) ⊎ Any (Same x) (front ++ (part ++ back)) in
      let in_front : All Is front =
      λ k d h. inr (Any-left (Same (get_or front k d)) front (part ++ back) (each_there front k d h)) in
      let following : All Is back = λ k d h. inr (Any-right (Same (get_or back k d)) front (part ++ back)
      (Any-right (Same (get_or back k d)) part back (each_there back k d h))) in
      let inside : All Is now = λ k d h. elim (r.others k d h) [
        | inl same ↦ inl same
        | inr there ↦
            inr (Any-right (Same (get_or now k d)) front (part ++ back) (Any-left (Same (get_or now k d)) part back there))
      ] in
      rw (items_split at, all_is) record {
        first = cc (
          first_key-append None front (now ++ back),
          first_key-append None now back,
          same_first (first_key None back) now part r.first,
          first_key-append None part back,
          first_key-append None front (part ++ back),
        );
        there = Any-right (λ (x : Item). x.version ≡ version) front (now ++ back)
            (Any-left (λ (x : Item). x.version ≡ version) now back r.there);
        others = All-append Is front (now ++ back) in_front (All-append Is now back inside following);
      }

  -- The child's entry would be right with that version, unless it has a greater one.
  pub raised_at : (b : Arena Node) (version : ℤ) → entries_at b slot ≡ entries_at a slot
      → IsRaised version (items_in a lower x) (items_in b lower x) → DescribesWritten b lower slot i version
  raised_at b version read raised e here le =
      let same = get_or_from_slice_get es i e at.d (rw read at here) in
      let child : x ≡ e.child = rw same at at.x_is in
      let describes : Describes e part = rw child (rw same at (child_right at).describes) in
      subst (λ s. Describes (record e { version = version }) (items_in b lower s)) child
      (describes_raised e version part (items_in b lower x) describes raised le)
