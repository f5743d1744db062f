-- What a tree answers to questions about ranges of stored boundaries.
use Rattle.std.proofs.Common.{◌≡◌, ℕ, ℤ, Bool, List, [], ◌∷◌, length, Option, None, Some, refl, arith}
use Rattle.std.specs.Prelude.{IsTrue, IsSomeAnd, ◌↔◌}
use Rattle.std.specs.List.{AllZip}
use Rattle.keys.proofs.callers.Booleans.{not_both_ways}
use Rattle.keys.proofs.callers.KeyOrder.{not_before_itself}
use Rattle.keys.specs.Key.{is_before}
use Rattle.keys.specs.Range.{IsEmpty}
use Rattle.keys.specs.declared.range.Range.{Range}
use Rattle.boundaries.specs.Bound.{Keys}
use Rattle.boundaries.specs.Boundary.{AreBoundaries, Exceeds}
use Rattle.boundaries.specs.Item.{Item}
use Rattle.boundaries.specs.Question.{AsksFor, CanAsk, Exceeds as ExceedsItems, bound_after, bound_before}
use Rattle.boundaries.specs.Stored.{AreStored}
use Rattle.boundaries.specs.declared.question.Question.{Question}
use Rattle.boundaries.specs.declared.tree.Tree.{Tree}
use Rattle.boundaries.proofs.Closing.{after_empty}
use Rattle.boundaries.proofs.LastAndInside.{above_answered}
use Rattle.boundaries.proofs.StoredItems.{AreKept, boundaries_in}
use Rattle.boundaries.proofs.StoredTrees.{can_reach, can_reach_after}

-- what is said of the query at a place gives more of it
pub query_gives : {A : Type 0} (o : Option A) (P R : A → Type 0) → ((a : A) → P a → R a) → IsSomeAnd o P → IsSomeAnd o R
query_gives None P R gives it = absurd it
query_gives (Some a) P R gives it = gives a it

pub same_length : {X Y : Type 0} (R : X → Y → Type 0) (xs : List X) (ys : List Y) → AllZip R xs ys → length ys ≡ length xs
same_length R [] [] all = refl
same_length R [] (y ∷ ys) all = absurd all
same_length R (x ∷ xs) [] all = absurd all
same_length R (x ∷ xs) (y ∷ ys) all = omega (arith, same_length R xs ys all.1)

-- the tree may be asked each question
pub can_ask : {tree : Tree} {room : ℕ} → AreStored tree room → (q : Question) → CanAsk tree.store tree.root.height tree.root.slot q
can_ask s q = record {
  from = can_reach_after s (bound_after q) refl;
  to = can_reach s (bound_before q) (after_empty q.begin.now q.end.now q.filled);
}

-- Its answer is that of the function.
pub answered_above : (keys : Keys) (items : List Item) → AreKept keys items → AreBoundaries (boundaries_in keys items)
    → (a : Range × ℤ) (q : Question) (above : Bool) → AsksFor a q → IsTrue above ↔ ExceedsItems keys q items
    → IsTrue above ↔ Exceeds (boundaries_in keys items) a
answered_above keys items stored are a q above asks answered =
    let range = a.0 in
    let filled : ¬ IsEmpty range = λ same. not_both_ways (is_before range.begin range.end) (rw (asks.begin, asks.end) at q.filled)
    (rw same (not_before_itself range.end)) in
    let by_ends = rw (asks.begin, asks.end, asks.version) at answered in
    let found = above_answered keys items stored range filled are a.1 in
    (λ h. found.0 (by_ends.0 h), λ e. by_ends.1 (found.1 e))
