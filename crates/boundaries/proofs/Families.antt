-- Entries of which some in the middle are replaced, and the node that has them.
use Rattle.std.proofs.Common.{◌≡◌, ℕ, suc, ◌+◌, ◌≤◌, List, ◌∷◌, ◌++◌, length, length-append, ap, ◌∙◌, arith}
use Rattle.std.proofs.lemmas.List.Concat.{flat_map-append}
use Rattle.std.proofs.lemmas.List.Elements.{All-append}
use Rattle.boundaries.proofs.Words.{Arena, IsLive, NodeEntry, Node, entries_at, items_in, slots_in, IsSubtree, items_of, slots_of, AreChildren}
use Rattle.boundaries.proofs.callers.Times.{times, none_or_some, times-append}
use Rattle.boundaries.proofs.Frames.{Agree, IsRight, items_of_same, slots_of_same, children_same}
use Rattle.boundaries.proofs.Changing.{Moves, moves_beside, moves_agree}
pub use Rattle.boundaries.proofs.Frames.{live_children}

module _ (a : Arena Node) (height : ℕ) where
  pub slots_of-append : (xs ys : List NodeEntry) → slots_of a height (xs ++ ys) ≡ slots_of a height xs ++ slots_of a height ys
  slots_of-append xs ys = flat_map-append (λ (e : NodeEntry). slots_in a height e.child) xs ys

  pub items_of-append : (xs ys : List NodeEntry) → items_of a height (xs ++ ys) ≡ items_of a height xs ++ items_of a height ys
  items_of-append xs ys = flat_map-append (λ (e : NodeEntry). items_in a height e.child) xs ys

  pub times-slots_of : (s : ℕ) (xs ys : List NodeEntry)
      → times s (slots_of a height (xs ++ ys)) ≡ times s (slots_of a height xs) + times s (slots_of a height ys)
  times-slots_of s xs ys = rw (slots_of-append xs ys) (times-append s _ _)

  pub length-slots_of : (xs ys : List NodeEntry)
      → length (slots_of a height (xs ++ ys)) ≡ length (slots_of a height xs) + length (slots_of a height ys)
  length-slots_of xs ys = rw (slots_of-append xs ys) (length-append _ _)

module _ (a b : Arena Node) (least height : ℕ) (before middle following new : List NodeEntry) where
  -- what becomes of entries of which the middle ones are replaced, whether these are right or not
  pub record Loose : Type 0 where
    pub front : AreChildren b least height before
    pub back : AreChildren b least height following
    pub items : items_of b height (before ++ (new ++ following))
        ≡ items_of a height before ++ (items_of b height new ++ items_of a height following)
    pub moves : Moves a b (slots_of a height (before ++ (middle ++ following))) (slots_of b height (before ++ (new ++ following)))

  -- the same where these are right
  pub record Replaced : Type 0 where
    pub kept : Loose
    pub open kept use *
    pub children : AreChildren b least height (before ++ (new ++ following))

  module _ (few : (s : ℕ) → times s (slots_of a height (before ++ (middle ++ following))) ≤ 1)
      (right_before : AreChildren a least height before) (right_after : AreChildren a least height following)
      (moves : Moves a b (slots_of a height middle) (slots_of b height new)) where
    pub loose : Loose
    loose =
        let xs = slots_of a height before in
        let ys = slots_of a height middle in
        let zs = slots_of a height following in
        let ws = slots_of b height new in
        let was : slots_of a height (before ++ (middle ++ following)) ≡ xs ++ (ys ++ zs) = simp slots_of-append in
        let apart = λ (s : ℕ). simp times-append at (rw was at (few s)) in
        let live_before = live_children a least height before right_before in
        let live_after = live_children a least height following right_after in
        let agree_before = moves_agree a b ys ws xs moves live_before (λ s. omega (arith, apart s)) in
        let agree_after = moves_agree a b ys ws zs moves live_after (λ s. omega (arith, apart s)) in
        let items_after = items_of_same a b height following agree_after in
        let now : slots_of b height (before ++ (new ++ following)) ≡ xs ++ (ws ++ zs) =
        simp (slots_of-append, slots_of_same a b height before agree_before, slots_of_same a b height following agree_after) in
        record {
          front = children_same a b height before agree_before least right_before;
          back = children_same a b height following agree_after least right_after;
          items = simp (items_of-append, items_of_same a b height before agree_before, items_after);
          moves = moves_beside a b ys ws (xs ++ zs) _ _ moves
              (λ s. rw was (simp times-append (omega arith)))
              (λ s. rw now (simp times-append (omega arith)))
              (rw was (simp length-append (omega arith)))
              (rw now (simp length-append (omega arith)))
              few
              (λ s some. grind (arith, none_or_some (times s xs), live_after s, live_before s, times-append s xs zs));
        }

    pub replaced : AreChildren b least height new → Replaced
    replaced right_new =
        let later = All-append (IsRight b least height) new following right_new loose.back in
        record { kept = loose; children = All-append (IsRight b least height) before (new ++ following) loose.front later }

-- what a slot above a leaf is seen as, once these entries stand there
pub record Holds (a b : Arena Node) (least height slot : ℕ) (entries : List NodeEntry) : Type 0 where
  pub subtree : IsSubtree b least (suc height) slot
  pub items : items_in b (suc height) slot ≡ items_of a height entries
  pub slots : slots_in b (suc height) slot ≡ slot ∷ slots_of a height entries

pub holds : (a b : Arena Node) (least height slot : ℕ) (entries : List NodeEntry) → IsLive b slot
    → entries_at b slot ≡ entries → 1 ≤ length entries → AreChildren a least height entries
    → Agree a b (slots_of a height entries) → Holds a b least height slot entries
holds a b least height slot entries live here some right agree = record {
  subtree = (live, rw here some, rw here (children_same a b height entries agree least right));
  items = ap (items_of b height) here ∙ items_of_same a b height entries agree;
  slots = ap (λ es. slot ∷ slots_of b height es) here ∙ ap (λ l. slot ∷ l) (slots_of_same a b height entries agree);
}
