-- Each key of which a node knows is that of an item, so that nodes know the right bytes as long as these keys stay.
use Rattle.std.proofs.Common.{◌≡◌, ◌≢◌, inl, inr, ℕ, zero, suc, ◌≤◌, List, [], ◌∷◌, length, get_or, map, Option, Some, None, IsSome, is_some, option_map, refl, sym, ap, arith, IfSome, All, Contains, nat_cmp, ◌∙◌}
use mathlib.Core.List.{map-map, map-append}
use Rattle.std.specs.FinMap as finite
use Rattle.std.specs.Cmp.{nat_cmp_total}
use Rattle.std.proofs.lemmas.List.Elements.{All-contains, All-map, All-weaker, All-contains_itself, Contains-get_or, Contains-append_left, Contains-append_right}
use Rattle.boundaries.proofs.Words.{Arena, Record, record_at, NodeEntry, Node, Item, KeyBytes, KeyHeads, AreHeads, AllAreHeads, all_heads_of, keys_of, key_heads_of, HALF_FULL, items_of, slots_of, entries_at, items_in, slots_in, IsSubtree, IsRooted}
use Rattle.boundaries.proofs.Changing.{other_number}
use Rattle.boundaries.proofs.Frames.{IsRight, live_in}
use Rattle.boundaries.proofs.Indexed.{key_heads_left}
use Rattle.boundaries.proofs.callers.Times.{times, once, once_same, once_cases, none_or_some, times-append, times_if_contains, once_if_distinct}

-- The keys of a map that has no others.
no_other : {X : Type 0} (m : finite.FinMap nat_cmp X) (xs : List ℕ) → ((s : ℕ) → times s xs ≤ 1)
    → ((s : ℕ) → 1 ≤ times s xs → IsSome (finite.get m s)) → finite.len m ≡ length xs
    → (s : ℕ) → IsSome (finite.get m s) → 1 ≤ times s xs
no_other {X} m [] few live count s is = absurd (cc (finite.empty_of_len m count, finite.get-empty {X = X} nat_cmp s))
no_other {X} m (x ∷ xs) few live count s is =
    elim (once_cases s x) [
      | inl same ↦ omega (arith, same.1)
      | inr other ↦
          let rest = finite.remove m x in
          let kept : (t : ℕ) → t ≢ x → finite.get rest t ≡ finite.get m t =
          λ t apart. rw (finite.get-remove nat_cmp_total m x t, other_number t x apart) refl in
          let fewer = rw (live x (omega (arith, once_same x))) at (finite.len-remove nat_cmp_total m x) in
          let i = no_other rest xs (λ t. omega (arith, few t))
          (λ t some. rw (kept t (λ same. absurd (omega (arith, few t, ap (once t) same, once_same t)))) (live t (omega arith)))
          (omega (arith, count)) s (rw (kept s (λ same. other.0 (sym same))) is) in
          omega (arith, i)
    ]

-- the keys of items
abbrev keys_in : List Item → List ℕ
keys_in items = map (λ x. x.key) items

-- these keys are those of items
abbrev AreOf : List Item → List ℕ → Type 0
AreOf items keys = All (Contains (keys_in items)) keys

module _ (a : Arena Node) (least : ℕ) where
  -- those of the items below an entry are among those below all entries
  key_below : (height : ℕ) (es : List NodeEntry) (e : NodeEntry) → Contains es e → (key : ℕ)
      → Contains (keys_in (items_in a height e.child)) key → Contains (keys_in (items_of a height es)) key
  key_below height [] e (k, lt, is) key has = absurd (omega arith)
  key_below height (x ∷ es) e (zero, lt, is) key has =
      rw (map-append, is) (Contains-append_left (keys_in (items_in a height e.child)) (keys_in (items_of a height es)) key has)
  key_below height (x ∷ es) e (suc k, lt, is) key has =
      rw map-append (Contains-append_right (keys_in (items_in a height x.child)) (keys_in (items_of a height es)) key
      (key_below height es e (k, omega arith, is) key has))

  -- the entry below which a slot stands
  entry_above : (height s : ℕ) (es : List NodeEntry) → 1 ≤ times s (slots_of a height es)
      → (e : NodeEntry) × Contains es e × (1 ≤ times s (slots_in a height e.child))
  entry_above height s [] some = absurd (omega arith)
  entry_above height s (e ∷ es) some = elim (none_or_some (times s (slots_in a height e.child))) [
    | inr here ↦ (e, (zero, omega arith, refl), here)
    | inl none ↦
        let w = entry_above height s es (omega (arith, times-append s (slots_in a height e.child) (slots_of a height es))) in
        (w.0, (suc w.1.0, omega (arith, w.1.1), w.1.2), w.2)
  ]

  -- the keys of a node of a subtree are those of items of the subtree
  keys_known : (s height slot : ℕ) → IsSubtree a least height slot → 1 ≤ times s (slots_in a height slot)
      → AreOf (items_in a height slot) (keys_of (entries_at a s))
  keys_known s zero slot h some = elim (once_cases s slot) [
    | inl same ↦ rw (← same.0, map-map) (All-contains_itself (keys_of (entries_at a slot)))
    | inr other ↦ absurd (omega (arith, other.1))
  ]
  keys_known s (suc height) slot h some = elim (once_cases s slot) [
    | inl same ↦
        let es = entries_at a slot in
        rw (← same.0) (All-map (Contains (keys_in (items_of a height es))) (λ (e : NodeEntry). e.key) es
        (λ i d lt. let t = (h.2 i d lt).describes in
        key_below height es (get_or es i d) (Contains-get_or es i d lt) _ (rw t.items_are (zero, omega arith, sym t.key))))
    | inr other ↦
        let w = entry_above height s (entries_at a slot) (omega (arith, other.1)) in
        let child = All-contains (IsRight a least height) (entries_at a slot) w.0 h.2 w.1 in
        λ i d lt. key_below height (entries_at a slot) w.0 w.1 _ (keys_known s height w.0.child child.subtree w.2 i d lt)
  ]

-- Each key in each node of a tree is that of an item.
know_items : (nodes : Arena Node) (root height : ℕ) → IsRooted nodes root height → (s : ℕ)
    → IfSome (all_heads_of nodes s) (λ h. AreOf (items_in nodes height root) h.keys)
know_items nodes root height r s = by_record (record_at nodes s) refl
  where
    by_record : (o : Option (Record Node)) → record_at nodes s ≡ o
        → IfSome (option_map key_heads_of (option_map (λ r. r.header) o)) (λ h. AreOf (items_in nodes height root) h.keys)
    by_record None e = tt
    by_record (Some record_there) e =
        let slots = slots_in nodes height root in
        let live = live_in nodes HALF_FULL height root r.subtree in
        let among = no_other nodes.records slots (once_if_distinct slots r.distinct) live r.linked s (ap is_some e) in
        rw e at (keys_known nodes HALF_FULL s height root r.subtree among)

-- What nodes know stays right where the keys of items stay.
pub headed_items : (a b : KeyBytes) (nodes : Arena Node) (root height : ℕ) → IsRooted nodes root height
    → ((s : ℕ) → 1 ≤ times s (keys_in (items_in nodes height root)) → b s ≡ a s)
    → AllAreHeads a (all_heads_of nodes) → AllAreHeads b (all_heads_of nodes)
headed_items a b nodes root height r same headed s = by_heads (all_heads_of nodes s) (know_items nodes root height r s) (headed s)
  where
    slots : List ℕ
    slots = keys_in (items_in nodes height root)

    by_heads : (o : Option KeyHeads) → IfSome o (λ h. All (Contains slots) h.keys) → IfSome o (AreHeads a) → IfSome o (AreHeads b)
    by_heads None k h = tt
    by_heads (Some key_heads) k h =
        key_heads_left a b key_heads
        (All-weaker (Contains slots) (λ key. (text : List ℕ) → a key ≡ Some text → b key ≡ Some text)
        (λ key c text is. same key (times_if_contains key slots c) ∙ is) key_heads.keys k) h
