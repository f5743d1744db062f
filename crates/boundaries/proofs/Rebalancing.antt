-- A node above two neighbours that are merged or share their entries.
use Rattle.std.proofs.Common.{◌≡◌, ◌≢◌, inl, inr, ℕ, ◌+◌, ◌-◌, ◌<◌, ◌≤◌, List, [], ◌∷◌, ◌++◌, length, get_or, take, drop, sym, ap, subst, ◌∙◌, arith}
use Rattle.std.proofs.lemmas.List.Elements.{All-nil, All-cons, All-take, All-drop}
use Rattle.std.proofs.lemmas.List.{take-take, drop-drop, get_or-take, get_or-drop, length-take, length-drop}
use Rattle.arena.specs.Arena.{Arena, IsLive}
use Rattle.boundaries.specs.declared.entry.NodeEntry.{NodeEntry}
use Rattle.boundaries.specs.declared.node.Node.{Node}
use Rattle.boundaries.specs.Item.{Describes}
use Rattle.boundaries.specs.Subtree.{entries_at, items_in, slots_in, IsSubtree}
use Rattle.boundaries.specs.Children.{child_at, slots_of, AreChildren, IsFamily, IsFamilyAt, IsKeyless, IsRebalanced}
use Rattle.boundaries.proofs.callers.Times.{none_or_some, times, times-append}
use Rattle.boundaries.proofs.Frames.{IsRight, live_in, own_slot}
use Rattle.boundaries.proofs.Changing.{moves_same}
use Rattle.boundaries.proofs.Sharing.{child_is, around_one, around_two, middle_once, rebalanced}

pub right_child : (b : Arena Node) (least height x : ℕ) (t : NodeEntry) → t.child ≡ x → least ≤ length (entries_at b x)
    → IsSubtree b least height x → Describes t (items_in b height x) → IsRight b least height t
right_child b least height x t e filled subtree describes =
    let answered = subst (λ z. Describes t (items_in b height z)) (sym e) describes in
    record { filled = rw e filled; subtree = rw e subtree; describes = answered }

pub live_subtree : (a : Arena Node) (least height slot : ℕ) → IsSubtree a least height slot → IsLive a slot
live_subtree a least height slot h = live_in a least height slot h slot (own_slot a height slot)

-- two neighbours of a family
pub apart_pair : (a : Arena Node) (least height : ℕ) (es : List NodeEntry) (i : ℕ) (d e : NodeEntry) → i + 1 < length es
    → IsFamily a least height es i (i + 2) → (get_or es i d).child ≢ (get_or es (i + 1) e).child
apart_pair a least height es i d e within family same =
    let x = (get_or es i d).child in
    let y = (get_or es (i + 1) e).child in
    let two = get_or es i d ∷ get_or es (i + 1) e ∷ [] in
    let few = middle_once a least height i (i + 2) es two family (around_two es i d e within) x in
    let parts = times-append x (slots_in a height x) (slots_in a height y ++ []) in
    let other = ap (λ z. times x (slots_in a height z)) same in
    absurd (omega (arith, few, parts, other, own_slot a height x, times-append x (slots_in a height y) []))

-- the entry of a changed child is made right, and no node is changed
pub rebalanced_by_entry : (a : Arena Node) (least height : ℕ) (was now : List NodeEntry) (i x : ℕ) (d t : NodeEntry)
    → i < length was → x ≡ (get_or was i d).child → IsFamily a least height was i (i + 1) → IsKeyless a → t.child ≡ x
    → (IsSubtree a least height x → Describes t (items_in a height x)) → least ≤ length (entries_at a x)
    → now ≡ take i was ++ (t ∷ [] ++ drop (i + 1) was) → IsRebalanced a a least height was now
rebalanced_by_entry a least height was now i x d t within x_is family keyless child describes filled now_is =
    let A = get_or was i d in
    let below : IsSubtree a least height x = rw x_is (family.below i d within) in
    let same : slots_of a height (t ∷ []) ≡ slots_of a height (A ∷ []) = cc in
    let right = right_child a least height x t child filled below (describes below) in
    let around = around_one was i d within in
    rebalanced a least height i (i + 1) was (A ∷ []) family around a now (t ∷ []) now_is
    (All-cons (IsRight a least height) t [] right (All-nil (IsRight a least height))) (cc)
    (moves_same a _ _ keyless (middle_once a least height i (i + 1) was (A ∷ []) family around)
    (λ s. ap (times s) same) (ap length same))

module _ (a : Arena Node) (least height slot i j : ℕ) (at : IsFamilyAt a least height slot i (i + 1)) (j_is : j ≡ i - 1) where
  abbrev es : List NodeEntry
  es = entries_at a slot

  -- a child and a neighbour
  pub widened : IsFamilyAt a least height slot j (j + 2)
  widened =
      let following = All-drop (IsRight a least height) (j + 2 - (i + 1)) (drop (i + 1) es) at.family.following in
      record {
        family = record {
          distinct = at.family.distinct;
          below = at.family.below;
          before = rw (take-take j i es (omega (arith, j_is))) at (All-take (IsRight a least height) j (take i es) at.family.before);
          following = subst (AreChildren a least height)
              (drop-drop (j + 2 - (i + 1)) (i + 1) es ∙ ap (λ n. drop n es) (omega (arith, j_is))) following;
        };
        apart = at.apart;
      }

  -- one of the two is filled
  pub filled_pair : (d : NodeEntry) → i < length es → 2 ≤ length es
      → least ≤ length (entries_at a (child_at es j)) + length (entries_at a (child_at es (j + 1)))
  filled_pair d within several =
      let count : ℕ → ℕ = λ z. length (entries_at a z) in elim (none_or_some i) [
        | inl first ↦
            let sum : i + 1 + 0 ≡ j + 1 = omega arith in
            let same : (get_or (drop (i + 1) es) 0 d).child ≡ child_at es (j + 1) =
            cc (sum, get_or-drop (i + 1) es 0 d, child_is es (j + 1) d (omega arith)) in
            omega (arith, ap count same, (at.family.following 0 d (omega (arith, length-drop (i + 1) es))).filled)
        | inr later ↦
            let same : (get_or (take i es) j d).child ≡ child_at es j =
            cc (get_or-take i es j d (omega arith), child_is es j d (omega arith)) in
            omega (arith, ap count same, (at.family.before j d (omega (arith, length-take i es))).filled)
      ]
