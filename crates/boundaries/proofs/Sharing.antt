-- Two neighbours that are merged or share their entries, and the entries of the node above.
use Rattle.std.proofs.Common.{◌≡◌, ℕ, zero, suc, ◌+◌, add-one, ◌<◌, ◌≤◌, List, [], ◌∷◌, ◌++◌, length, length-append, get_or, set, take, drop, map, option_map, unwrap_or, refl, sym, ap, ap₂, subst, ◌∙◌, arith, append_assoc, All, flat_map}
use Rattle.std.proofs.lemmas.List.{map-append, take-append-drop, drop_more, set_split, take_more_set, drop-set-lt, length-set}
use Rattle.std.proofs.lemmas.Option.{slice_get-get_or}
use Rattle.boundaries.proofs.Words.{Arena, NodeEntry, Node, item_of, Describes, entries_at, items_in, IsSubtree, child_at, items_of, slots_of, AreChildren, IsFamily, IsRebalanced}
use Rattle.boundaries.proofs.callers.Times.{times, times-append, once_if_distinct}
use Rattle.boundaries.proofs.Frames.{IsRight, items_of_same, slots_of_same, children_same}
use Rattle.boundaries.proofs.Changing.{Moves, moves_beside, moves_agree, changes_if_moves}
use Rattle.boundaries.proofs.Families.{slots_of-append, items_of-append, times-slots_of, live_children, replaced}
use Rattle.boundaries.proofs.Placing.{live_if_some}
use Rattle.boundaries.proofs.callers.Partitions.{All-front, All-back, All-joined, All-apart}
pub use Rattle.boundaries.proofs.Ways.{around_element as around_one}

-- the child of an entry, and the entries around two
pub child_is : (es : List NodeEntry) (i : ℕ) (d : NodeEntry) → i < length es → child_at es i ≡ (get_or es i d).child
child_is es i d within = ap (λ o. unwrap_or (option_map (λ (e : NodeEntry). e.child) o) 0) (slice_get-get_or es i d within)

pub around_two : (es : List NodeEntry) (i : ℕ) (d e : NodeEntry) → i + 1 < length es
    → es ≡ take i es ++ (get_or es i d ∷ get_or es (i + 1) e ∷ [] ++ drop (i + 2) es)
around_two es i d e within =
    let next : i + 1 + 1 ≡ i + 2 = omega arith in
    cc (take-append-drop i es, drop_more es i d (omega arith), drop_more es (i + 1) e within)

-- one of them set and the other removed, and both set
pub set_removed : (es : List NodeEntry) (i : ℕ) (t : NodeEntry) → i + 1 < length es
    → take (i + 1) (set es i t) ++ drop (i + 2) (set es i t) ≡ take i es ++ (t ∷ [] ++ drop (i + 2) es)
set_removed es i t within =
    ap₂ (λ l m. l ++ m) (take_more_set es i t (omega arith)) (drop-set-lt (i + 2) es i t (omega arith))
    ∙ append_assoc (take i es) (t ∷ []) (drop (i + 2) es)

pub set_both : (es : List NodeEntry) (i : ℕ) (t u : NodeEntry) → i + 1 < length es
    → set (set es i t) (i + 1) u ≡ take i es ++ (t ∷ u ∷ [] ++ drop (i + 2) es)
set_both es i t u within =
    let next : suc (i + 1) ≡ i + 2 = omega arith in
    let entire = set_split (set es i t) (i + 1) u (omega (arith, length-set es i t)) in
    let back = drop-set-lt (i + 2) es i t (omega arith) in
    cc (take_more_set es i t (omega arith), append_assoc (take i es) (t ∷ []) (u ∷ drop (i + 2) es))

pub set_one : (es : List NodeEntry) (i : ℕ) (t : NodeEntry) → i < length es
    → set es i t ≡ take i es ++ (t ∷ [] ++ drop (i + 1) es)
set_one es i t within = rw add-one (set_split es i t within)

-- what is computed of all parts is what is computed of each
flat_map-parts : {X Y Z : Type 0} (f : X → List Y) (g : List Y → List Z) → g [] ≡ []
    → ((xs ys : List Y) → g (xs ++ ys) ≡ g xs ++ g ys) → (xs : List X) → flat_map (λ x. g (f x)) xs ≡ g (flat_map f xs)
flat_map-parts f g none add [] = sym none
flat_map-parts f g none add (x ∷ xs) = cc (add (f x) (flat_map f xs), flat_map-parts f g none add xs)

-- the entries of the nodes below
abbrev pub entries_below : Arena Node → List NodeEntry → List NodeEntry
entries_below a es = flat_map (λ e. entries_at a e.child) es

-- Slots are counted apart from those below them.
count_below : (a : Arena Node) (height : ℕ) (count : List ℕ → ℕ) → count [] ≡ 0
    → ((xs ys : List ℕ) → count (xs ++ ys) ≡ count xs + count ys) → (es : List NodeEntry)
    → count (slots_of a (suc height) es) ≡ count (slots_of a 0 es) + count (slots_of a height (entries_below a es))
count_below a height count none add [] = omega (arith, none)
count_below a height count none add (e ∷ es) =
    let own = slots_of a height (entries_at a e.child) in
    let rest = slots_of a height (entries_below a es) in
    let parts = ap count (slots_of-append a height (entries_at a e.child) (entries_below a es)) ∙ add own rest in
    let first = add (e.child ∷ []) own in
    let all = add (e.child ∷ own) (slots_of a (suc height) es) in
    omega (arith, count_below a height count none add es, parts, first, all, add (e.child ∷ []) (slots_of a 0 es))

-- children that have the entries of others
pub record Regrouped (a b : Arena Node) (least height : ℕ) (old new : List NodeEntry) : Type 0 where
  pub subtrees : All (λ e. IsSubtree b least height e.child) new
  pub items : items_of b height new ≡ items_of a height old
  pub moves : Moves a b (slots_of a height old) (slots_of b height new)

regrouped : (a b : Arena Node) (least height : ℕ) (old new : List NodeEntry) → Moves a b (slots_of a 0 old) (slots_of b 0 new)
    → entries_below b new ≡ entries_below a old → All (λ e. 1 ≤ length (entries_at b e.child)) new
    → All (λ e. IsSubtree a least height e.child) old → ((s : ℕ) → times s (slots_of a height old) ≤ 1)
    → Regrouped a b least height old new
regrouped a b least zero old new moves here some below few =
    let items = λ (c : Arena Node).
    flat_map-parts (λ (e : NodeEntry). entries_at c e.child) (map item_of) refl (map-append item_of) in
    record {
      subtrees = λ i d inside. live_if_some b (get_or new i d).child (some i d inside);
      items = cc (items a old, items b new);
      moves = moves;
    }
regrouped a b least (suc height) old new moves here some below few =
    let es = entries_below a old in
    let right = All-joined (IsRight a least height) (λ (e : NodeEntry). entries_at a e.child) old (λ i d lt. (below i d lt).2) in
    let live = live_children a least height es right in
    let count = λ (s : ℕ). count_below a height (times s) refl (times-append s) old in
    let agree = moves_agree a b (slots_of a 0 old) (slots_of b 0 new) (slots_of a height es) moves live
    (λ s. omega (arith, few s, count s)) in
    let same : slots_of b height (entries_below b new) ≡ slots_of a height es =
    ap (slots_of b height) here ∙ slots_of_same a b height es agree in
    let items = λ (c : Arena Node).
    flat_map-parts (λ (e : NodeEntry). entries_at c e.child) (items_of c height) refl (items_of-append c height) in
    let each = All-apart (IsRight b least height) (λ (e : NodeEntry). entries_at b e.child) new
    (subst (AreChildren b least height) (sym here) (children_same a b height es agree least right)) in
    record {
      subtrees = λ i d inside. (live_if_some b _ (some i d inside), some i d inside, each i d inside);
      items = cc (items a old, items b new, items_of_same a b height es agree);
      moves = moves_beside a b (slots_of a 0 old) (slots_of b 0 new) (slots_of a height es) _ _ moves count
          (λ s. rw same at (count_below b height (times s) refl (times-append s) new))
          (count_below a height length refl length-append old)
          (rw same at (count_below b height length refl length-append new)) few live;
    }

-- what an entry of this child tells
abbrev DescribesOf : Arena Node → NodeEntry → ℕ → Type 0
DescribesOf a e child = (height least : ℕ) → IsSubtree a least height child → Describes e (items_in a height child)

-- an entry of a child that has enough entries
pub record IsMade (a : Arena Node) (enough : ℕ) (e : NodeEntry) : Type 0 where
  pub filled : enough ≤ length (entries_at a e.child)
  pub describes : DescribesOf a e e.child

pub made : (a : Arena Node) (enough x : ℕ) (e : NodeEntry) → e.child ≡ x → enough ≤ length (entries_at a x) → DescribesOf a e x
    → IsMade a enough e
made a enough x e child filled describes = record { filled = rw child filled; describes = subst (DescribesOf a e) (sym child) describes }

-- The slots below some entries in the middle are a part of those below all, and so are their children's own.
pub middle_part : (a : Arena Node) (height from to : ℕ) (was middle : List NodeEntry)
    → was ≡ take from was ++ (middle ++ drop to was) → (s : ℕ)
    → times s (slots_of a height middle) ≤ times s (slots_of a height was)
middle_part a height from to was middle was_is s =
    let all = ap (λ l. times s (slots_of a height l)) was_is in
    let parts = times-slots_of a height s (take from was) (middle ++ drop to was) in
    omega (arith, times-slots_of a height s middle (drop to was))

pub own_part : (a : Arena Node) (height : ℕ) (es : List NodeEntry) (s : ℕ)
    → times s (slots_of a 0 es) ≤ times s (slots_of a height es)
own_part a zero es s = omega arith
own_part a (suc height) es s = omega (arith, count_below a height (times s) refl (times-append s) es)

-- entries of which some in the middle are replaced
module _ (a : Arena Node) (least height from to : ℕ) (was middle : List NodeEntry)
    (family : IsFamily a least height was from to) (was_is : was ≡ take from was ++ (middle ++ drop to was)) where
  pub middle_once : (s : ℕ) → times s (slots_of a height middle) ≤ 1
  middle_once s =
      omega (arith, middle_part a height from to was middle was_is s, once_if_distinct (slots_of a height was) family.distinct s)

  -- They are rebalanced.
  pub rebalanced : (b : Arena Node) (now new : List NodeEntry) → now ≡ take from was ++ (new ++ drop to was)
      → AreChildren b least height new → items_of b height new ≡ items_of a height middle
      → Moves a b (slots_of a height middle) (slots_of b height new) → IsRebalanced a b least height was now
  rebalanced b now new now_is right items moves =
      let few = λ (s : ℕ).
      subst (λ l. times s (slots_of a height l) ≤ 1) was_is (once_if_distinct (slots_of a height was) family.distinct s) in
      let h = replaced a b least height (take from was) middle (drop to was) new few family.before family.following moves right in
      let rest_are = items_of-append a height middle (drop to was) in
      record {
        children = rw now_is h.children;
        items = cc (h.items, rest_are, items_of-append a height (take from was) (middle ++ drop to was));
        changes = changes_if_moves a b (slots_of a height was) (slots_of b height now)
            (subst (λ l. Moves a b (slots_of a height l) (slots_of b height now)) (sym was_is) (rw now_is h.moves));
      }

  -- So they are where the new ones' children have the entries of the others.
  pub rebalanced_by : (b : Arena Node) (now new : List NodeEntry) → now ≡ take from was ++ (new ++ drop to was)
      → 1 ≤ least → All (IsMade b least) new → entries_below b new ≡ entries_below a middle
      → Moves a b (slots_of a 0 middle) (slots_of b 0 new) → IsRebalanced a b least height was now
  rebalanced_by b now new now_is some all_made here moves =
      let P : NodeEntry → Type 0 = λ e. IsSubtree a least height e.child in
      let all = subst (All P) was_is family.below in
      let below = All-front P middle (drop to was) (All-back P (take from was) (middle ++ drop to was) all) in
      let r = regrouped a b least height middle new moves here
      (λ i d inside. omega (arith, some, (all_made i d inside).filled)) below middle_once in
      rebalanced b now new now_is (λ i d inside. record {
        filled = (all_made i d inside).filled;
        subtree = r.subtrees i d inside;
        describes = (all_made i d inside).describes height least (r.subtrees i d inside);
      }) r.items r.moves
