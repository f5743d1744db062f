-- What answers a question: the leaf to which it leads, or else the keys. This project's own.
use Rattle.std.specs.Prelude.{◌≡◌, ◌≢◌, ◌≤◌, ◌<ℤ◌, ◌↔◌, ◌++◌, ℕ, ℤ, Bool, true, false, List, [], drop, length, Option, Some, IfSome, IsTrue}
use Rattle.std.specs.List.{All, Any}
use Rattle.arena.specs.Arena.{IsLive}
use Rattle.keys.specs.declared.range.Range.{Range}
use Rattle.boundaries.specs.declared.approach.Approach.{Approach}
use Rattle.boundaries.specs.declared.approach.Approach.TheVariants.{Leaf, Clear, Open}
use Rattle.boundaries.specs.declared.approach.Hint.{Hint}
use Rattle.boundaries.specs.declared.approach.Rest.{Rest}
use Rattle.boundaries.specs.declared.approach.Rest.TheVariants as rest
use Rattle.boundaries.specs.declared.key_bound.KeyBound.{KeyBound}
use Rattle.boundaries.specs.declared.lookup.Look.{Look}
use Rattle.boundaries.specs.declared.node.Node.{Node}
use Rattle.boundaries.specs.declared.question.Question.{Question}
use Rattle.boundaries.specs.declared.store.Store.{Store}
use Rattle.boundaries.specs.Bound.{Keys, is_below}
use Rattle.boundaries.specs.Finding.{CanStep, HasHead, IsHeadFor}
use Rattle.boundaries.specs.Item.{Item}
use Rattle.boundaries.specs.Node.{entries_of}
use Rattle.boundaries.specs.Path.{IsPartitioned, from_last, items_below}
use Rattle.boundaries.specs.Position.{CanBeSearched, CanReach, IsFirstKnown}
use Rattle.boundaries.specs.Store.{AreHeaded}
use Rattle.boundaries.specs.Subtree.{entries_at, items_in}
use Rattle.arena.specs.Arena.{header_at}

-- the bounds of a question: right after the begin of its range, and right before the end
abbrev pub bound_after : Question → KeyBound
bound_after q = record { key = q.begin; up_to = true }

abbrev pub bound_before : Question → KeyBound
bound_before q = record { key = q.end; up_to = false }

-- whether an item is below each
abbrev pub begun : Keys → Question → ℕ → Bool
begun keys q = is_below keys (bound_after q)

abbrev pub before_end : Keys → Question → ℕ → Bool
before_end keys q = is_below keys (bound_before q)

-- the question for a query
pub record AsksFor (query : Range × ℤ) (q : Question) : Type 0 where
  pub begin : q.begin.now ≡ query.0.begin
  pub end : q.end.now ≡ query.0.end
  pub version : q.version ≡ query.1

-- a subtree that a question can be asked of: both bounds go through its items, and some are below the first one
pub record IsAsked (store : Store) (height slot : ℕ) (q : Question) : Type 0 where
  pub searchable : CanBeSearched store (bound_after q) height slot
  pub to : IsPartitioned (λ x. before_end store.keys q x.key) (items_in store.nodes height slot)
  pub some_below : items_below (begun store.keys q) (items_in store.nodes height slot) ≢ []

-- a tree that a question can be asked of, from its root
pub record CanAsk (store : Store) (height slot : ℕ) (q : Question) : Type 0 where
  pub from : CanReach store (bound_after q) height slot
  pub to : CanReach store (bound_before q) height slot

-- A version of the items before the second bound, of those before the first one the last alone, is above this one.
abbrev pub IsAboveBetween : (ℕ → Bool) → (ℕ → Bool) → ℤ → List Item → Type 0
IsAboveBetween p q v items = Any (λ x. v <ℤ x.version) (from_last p (Some q) items)

-- A version of the items before the end, of those not after the begin the last alone, is above the question's.
abbrev pub Exceeds : Keys → Question → List Item → Type 0
Exceeds keys q items = IsAboveBetween (begun keys q) (before_end keys q) q.version items

-- The answer for some items, if there is one: whether they exceed a version. It holds whatever items come before and after them.
-- If `clear` holds, no later item comes before the second bound.
abbrev pub Answers : (ℕ → Bool) → (ℕ → Bool) → ℤ → Bool → List Item → Option Bool → Type 0
Answers p q v clear items result =
    (before after : List Item) → (IsTrue clear → All (λ x. q x.key ≡ false) after)
    → IsPartitioned (λ x. p x.key) (before ++ (items ++ after)) → IsPartitioned (λ x. q x.key) (before ++ (items ++ after))
    → IfSome result (λ answered. IsTrue answered ↔ IsAboveBetween p q v (before ++ (items ++ after)))

-- no later item comes before the end
abbrev pub is_clear : Rest → Bool
is_clear rest.Clear = true
is_clear rest.Open = false

-- the answer of a question
abbrev pub IsAnswer : Keys → Question → Rest → List Item → Option Bool → Type 0
IsAnswer keys q r items result = Answers (begun keys q) (before_end keys q) q.version (is_clear r) items result

-- what is known of the items from an entry of a node on
abbrev pub IsRestAt : Store → Node → ℕ → Question → Rest → Type 0
IsRestAt store node index q r = IsTrue (is_clear r) → All (λ e. before_end store.keys q e.key ≡ false) (drop index (entries_of node))

-- a node that was searched by the begin of a question, whose head is this
pub record IsSearched (store : Store) (node : Node) (q : Question) (known : ℕ) (given : Option ℕ) : Type 0 where
  pub can_step : CanStep store.keys (bound_after q) node known
  pub head : HasHead store.keys (bound_after q) given node

-- a subtree that has entries, with what is known of its first key
pub record IsHint (store : Store) (q : Question) (hint : Hint) : Type 0 where
  pub live : IsLive store.nodes hint.slot
  pub some : 1 ≤ length (entries_at store.nodes hint.slot)
  pub headed : AreHeaded store
  pub known : IsFirstKnown store (bound_after q) hint.slot hint.common_prefix_len

-- A leaf of a subtree, whose items are partitioned twice. The answer for them is the answer for the subtree's.
pub record IsFor (store : Store) (height slot : ℕ) (r : Rest) (q : Question) (hint : Hint) : Type 0 where
  pub hint_is : IsHint store q hint
  pub asked : IsAsked store 0 hint.slot q
  pub describes : (result : Option Bool) → IsAnswer store.keys q hint.rest (items_in store.nodes 0 hint.slot) result
      → IsAnswer store.keys q r (items_in store.nodes height slot) result

-- the end of a question's way from a subtree on
abbrev pub IsApproach : Store → ℕ → ℕ → Rest → Question → Approach → Type 0
IsApproach store height slot r q (Leaf hint) = IsFor store height slot r q hint
IsApproach store height slot r q Clear = IsAnswer store.keys q r (items_in store.nodes height slot) (Some false)
IsApproach store height slot r q Open = Unit {0}

-- that it leads to such a leaf, if it does to one
abbrev pub IsLeading : Store → Question → Approach → Type 0
IsLeading store q (Leaf hint) = IsHint store q hint
IsLeading store q Clear = Unit {0}
IsLeading store q Open = Unit {0}

-- the head of a question's begin at the leaf to which it leads
abbrev pub IsLookedAt : Store → Question → Approach → Option ℕ → Type 0
IsLookedAt store q (Leaf hint) head =
    IfSome (header_at store.nodes hint.slot) (λ node. IsHeadFor store.keys (bound_after q) node hint.common_prefix_len head)
IsLookedAt store q Clear head = Unit {0}
IsLookedAt store q Open head = Unit {0}

-- what the first look gives there
abbrev pub IsLooked : Store → Question → Look → Type 0
IsLooked store q look = IsLookedAt store q look.approach look.head
