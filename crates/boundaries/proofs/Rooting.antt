-- A root over two subtrees, and the only child of a root in its place.
use Rattle.std.proofs.Common.{◌≡◌, ℕ, suc, ◌≤◌, List, [], ◌∷◌, length, get_or, refl, sym, ap, subst, ◌∙◌, arith}
use Rattle.std.specs.Prelude.{nat_eq}
use Rattle.std.specs.List.{IsDistinct}
use Rattle.std.specs.FinMap as map
use Rattle.std.proofs.lemmas.List.{append-nil}
use Rattle.std.proofs.lemmas.List.Elements.{All-head}
use Rattle.arena.specs.Arena.{Arena, IsLive}
use Rattle.boundaries.specs.declared.entry.NodeEntry.{NodeEntry}
use Rattle.boundaries.specs.declared.node.Node.{Node}
use Rattle.boundaries.specs.Subtree.{entries_at, items_in, slots_in, IsSubtree}
use Rattle.boundaries.specs.Children.{AreChildren, items_of, slots_of}
use Rattle.boundaries.specs.Store.{IsRooted}
use Rattle.boundaries.specs.declared.node.TheConstants.{HALF_FULL}
use Rattle.boundaries.proofs.callers.Times.{once_if_distinct, distinct_if_once}
use Rattle.boundaries.proofs.Frames.{IsRight, agree_own, items_same, slots_same, subtree_same, live_in}
use Rattle.boundaries.proofs.Changing.{Moves, moves_beside, moves_agree}
use Rattle.boundaries.proofs.Families.{live_children, holds}

pub only_one : {X : Type 0} (xs : List X) (d : X) → length xs ≡ 1 → xs ≡ get_or xs 0 d ∷ []
only_one [] d one = absurd (omega arith)
only_one (x ∷ []) d one = refl
only_one (x ∷ y ∷ xs) d one = absurd (omega arith)

-- a placed node leads to all that there is
pub grown : (a b : Arena Node) (height slot : ℕ) (es : List NodeEntry) → Moves a b [] (slot ∷ []) → IsLive b slot
    → entries_at b slot ≡ es → 2 ≤ length es → AreChildren a HALF_FULL height es
    → IsDistinct nat_eq (slots_of a height es) → map.len a.records ≡ length (slots_of a height es)
    → (items_in b (suc height) slot ≡ items_of a height es) × IsRooted b slot (suc height)
grown a b height slot es moves live here two right distinct linked =
    let zs = slots_of a height es in
    let once = once_if_distinct zs distinct in
    let alive = live_children a HALF_FULL height es right in
    let agree = moves_agree a b [] (slot ∷ []) zs moves alive (λ s. omega (arith, once s)) in
    let h = holds a b HALF_FULL height slot es live here (omega arith) right agree in
    let beside = moves_beside a b [] (slot ∷ []) zs zs (slot ∷ zs) moves (λ s. omega arith) (λ s. omega arith) (omega arith)
    (omega arith) once alive in
    let rooted : IsRooted b slot (suc height) = record {
      subtree = h.subtree;
      branches = λ above. omega (arith, two, ap length here);
      distinct = subst (IsDistinct nat_eq) (sym h.slots) (distinct_if_once (slot ∷ zs) beside.few);
      linked = omega (arith, beside.live, ap length h.slots);
      keyless = beside.keyless;
    } in
    (h.items, rooted)

-- the only child of a released root
pub shrunk : (a b : Arena Node) (height slot : ℕ) (e : NodeEntry) → IsSubtree a HALF_FULL (suc height) slot
    → entries_at a slot ≡ e ∷ [] → IsDistinct nat_eq (slots_in a (suc height) slot)
    → map.len a.records ≡ length (slots_in a (suc height) slot) → Moves a b (slot ∷ []) []
    → (items_in b height e.child ≡ items_in a (suc height) slot) × IsRooted b e.child height
shrunk a b height slot e subtree here distinct linked moves =
    let least = HALF_FULL in
    let zs = slots_in a height e.child in
    let slots : slots_in a (suc height) slot ≡ slot ∷ zs = simp (here, append-nil) in
    let items : items_in a (suc height) slot ≡ items_in a height e.child = simp (here, append-nil) in
    let own : IsRight a least height e = All-head (IsRight a least height) e [] (rw here at subtree.2) in
    let once = once_if_distinct (slot ∷ zs) (subst (IsDistinct nat_eq) slots distinct) in
    let alive = live_in a least height e.child own.subtree in
    let agree = moves_agree a b (slot ∷ []) [] zs moves alive (λ s. omega (arith, once s)) in
    let beside = moves_beside a b (slot ∷ []) [] zs (slot ∷ zs) zs moves (λ s. omega arith) (λ s. omega arith) (omega arith)
    (omega arith) once alive in
    let same = slots_same a b height e.child agree in
    let rooted : IsRooted b e.child height = record {
      subtree = subtree_same a b least height e.child agree own.subtree;
      branches = λ above. omega (arith, own.filled, ap length (agree_own a b height e.child agree));
      distinct = subst (IsDistinct nat_eq) (sym same) (distinct_if_once zs beside.few);
      linked = omega (arith, beside.live, ap length same, ap length slots);
      keyless = beside.keyless;
    } in
    (items_same a b height e.child agree ∙ sym items, rooted)
