-- What nodes know of the bytes of keys, while nodes are put, placed and released.
use Rattle.std.proofs.Common.{rules, ◌≡◌, ◌≢◌, ◌⊎◌, inl, inr, ℕ, ◌≤◌, List, [], ◌∷◌, length, map, take, Option, Some, None, option_map, unwrap_or, refl, arith, ◌∙◌, IfSome, All}
use Rattle.std.proofs.lemmas.List.{nil_from_length}
use Rattle.std.proofs.lemmas.Option.{IfSome_then}
use Rattle.std.proofs.lemmas.List.Elements.{All-head, All-tail}
use Rattle.boundaries.proofs.Words.{Arena, record_at, header_at, Node, KeyBytes, IsKnown, Begins, KeyHeads, AreHeads, AllAreHeads, head_at, entries_of, keys_of, key_heads_of, all_heads_of, entries_at}
use Rattle.std.specs.FinMap as finite
use Rattle.std.specs.Cmp.{nat_cmp_total}
use Rattle.boundaries.proofs.Changing.{same_number}
use Rattle.boundaries.proofs.callers.Times.{once_cases}

-- a text that isn't too short for it begins with these bytes
pub begins_if_long : (prefix text : List ℕ) → (text ≡ []) ⊎ (take (length prefix) text ≡ prefix)
    → length prefix ≤ length text → take (length prefix) text ≡ prefix
begins_if_long prefix text begins long = grind (arith, nil_from_length prefix)

-- each key of which a node knows is known
pub all_known : (bytes : KeyBytes) (key_heads : KeyHeads) → AreHeads bytes key_heads → All (IsKnown bytes) key_heads.keys
all_known bytes key_heads h i d lt =
    let b = h.begins i d lt in
    record { text = b.text; known = b.known; are_bytes = b.are_bytes }

-- bytes that are the same of the keys that are known
module _ (a b : KeyBytes) (same : (key : ℕ) (text : List ℕ) → a key ≡ Some text → b key ≡ Some text) where
  heads_kept : (n : ℕ) (keys : List ℕ) → All (IsKnown a) keys → map (head_at a n) keys ≡ map (head_at b n) keys
  heads_kept n [] known = refl
  heads_kept n (key ∷ keys) known =
      let k = All-head (IsKnown a) key keys known in
      rw (k.known, same key k.text k.known, heads_kept n keys (All-tail (IsKnown a) key keys known)) refl

  -- what a node knows is right
  pub key_heads_kept : (key_heads : KeyHeads) → AreHeads a key_heads → AreHeads b key_heads
  key_heads_kept key_heads h =
      let begins : All (Begins b h.prefix) key_heads.keys = λ i d lt.
      let x = h.begins i d lt in
      record { text = x.text; known = same _ x.text x.known; are_bytes = x.are_bytes; begins = x.begins } in
      let heads = h.heads ∙ heads_kept key_heads.prefix_len key_heads.keys (all_known a key_heads h) in
      record { prefix = h.prefix; prefix_len = h.prefix_len; begins = begins; heads = heads }

  -- and what each node knows
  pub headed_kept : (all_heads : ℕ → Option KeyHeads) → AllAreHeads a all_heads → AllAreHeads b all_heads
  headed_kept all_heads all s = IfSome_then (all_heads s) (all s) key_heads_kept

-- what the node at a slot knows is right
pub headed_at : (bytes : KeyBytes) (nodes : Arena Node) (slot : ℕ) (node : Node) → AllAreHeads bytes (all_heads_of nodes)
    → header_at nodes slot ≡ Some node → AreHeads bytes (key_heads_of node)
headed_at bytes nodes slot node all is = rw is at (all slot)

-- the keys of the entries of a node are known
pub known_at : (bytes : KeyBytes) (nodes : Arena Node) (slot : ℕ) → AllAreHeads bytes (all_heads_of nodes)
    → All (IsKnown bytes) (keys_of (entries_at nodes slot))
known_at bytes nodes slot all = by_header (header_at nodes slot) (all slot)
  where
    by_header : (o : Option Node) → IfSome (option_map key_heads_of o) (AreHeads bytes)
        → All (IsKnown bytes) (keys_of (unwrap_or (option_map entries_of o) []))
    by_header None h = search rules
    by_header (Some node) h = all_known bytes (key_heads_of node) h

-- One slot has another node whose knowledge is right, and all others have the same node or none.
pub headed_put : (bytes : KeyBytes) (old new : Arena Node) (slot : ℕ) (node : Node) → AllAreHeads bytes (all_heads_of old)
    → header_at new slot ≡ Some node → AreHeads bytes (key_heads_of node)
    → ((s : ℕ) → s ≢ slot → record_at new s ≡ record_at old s) → AllAreHeads bytes (all_heads_of new)
headed_put bytes old new slot node all is headed others s =
    elim (once_cases slot s) [ inl same ↦ rw (same.0, is) headed | inr other ↦ rw (others s other.0) (all s) ]

-- One slot has no node any more, and all others have the same.
pub headed_released : (bytes : KeyBytes) (old new : Arena Node) (slot : ℕ) → AllAreHeads bytes (all_heads_of old)
    → new.records ≡ finite.remove old.records slot → ((s : ℕ) → s ≢ slot → record_at new s ≡ record_at old s)
    → AllAreHeads bytes (all_heads_of new)
headed_released bytes old new slot all released others s =
    elim (once_cases slot s) [
      | inl same ↦ rw (same.0, released, finite.get-remove nat_cmp_total old.records slot slot, same_number slot slot refl) tt
      | inr other ↦ rw (others s other.0) (all s)
    ]
