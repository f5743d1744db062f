-- What is known of the first keys of nodes, where a search goes on with the last entry below the bound.
use Rattle.std.proofs.Common.{◌≡◌, ◌≢◌, ℕ, ◌+◌, ◌-◌, ◌<◌, ◌≤◌, Bool, true, false, List, [], ◌∷◌, Some, length, length-append, get_or, slice_get, filter, flat_map, All, refl, sym, subst, ap, ◌∙◌, arith}
use Rattle.std.proofs.lemmas.List.Elements.{filter-append}
use Rattle.std.proofs.lemmas.Bool.{cases_Bool}
use Rattle.std.proofs.lemmas.Option.{slice_get_read}
use Rattle.boundaries.specs.Position.{CanReach, IsFirstKnown}
use Rattle.boundaries.proofs.Words.{HALF_FULL, KeyBound, Store, NodeEntry, IsCommonPrefixLen, Item, Describes, IsPartitioned, index_in, is_below, entries_at, items_in}
use Rattle.boundaries.proofs.callers.Partitions.{length-items_below}
use Rattle.boundaries.proofs.HeadCounts.{passing_at, passing_inside}
use Rattle.boundaries.proofs.HeadOrder.{describes_empty}
use Rattle.boundaries.proofs.KeyBytes.{known_bytes}
use Rattle.boundaries.proofs.FirstKeys.{items_under, node_items, node_describes}

-- Where the first entry passes, some do.
pub some_pass : (is_below : ℕ → Bool) (es : List NodeEntry) → 1 ≤ length es
    → ((e : NodeEntry) → slice_get es 0 ≡ Some e → is_below e.key ≡ true) → 1 ≤ length (filter (λ e. is_below e.key) es)
some_pass is_below [] some first = absurd (omega arith)
some_pass is_below (e ∷ es) some first = let t = first e refl in rw t (omega arith)

-- Where an entry passes, some of the items that it tells of do.
pub some_answered : (is_below : ℕ → Bool) (e : NodeEntry) (items : List Item) → Describes e items → is_below e.key ≡ true
    → 1 ≤ length (filter (λ x. is_below x.key) items)
some_answered is_below e items t passes = rw (t.items_are, ← t.key, passes) (omega arith)

-- So there are some.
pub some_told : (is_below : ℕ → Bool) (e : NodeEntry) (items : List Item) → Describes e items → is_below e.key ≡ true
    → filter (λ x. is_below x.key) items ≢ []
some_told is_below e items t passes none = omega (arith, some_answered is_below e items t passes, ap length none)

-- The last of those that pass does.
pub last_passes : (is_below : ℕ → Bool) (es : List NodeEntry) (i : ℕ) (e : NodeEntry) → IsPartitioned (λ e. is_below e.key) es
    → 1 ≤ length (filter (λ e. is_below e.key) es) → i ≡ length (filter (λ e. is_below e.key) es) - 1
    → e ≡ get_or es i e → is_below e.key ≡ true
last_passes is_below es i e partitioned some at is =
    let p = λ (e : NodeEntry). is_below e.key in
    let inside : i < length es = omega (arith, length-items_below p es) in
    passing_at p es i e partitioned (slice_get_read es (length es) i e refl inside is) (omega arith)

-- The one behind it doesn't.
pub next_fails : (is_below : ℕ → Bool) (es : List NodeEntry) (i : ℕ) (e : NodeEntry) → IsPartitioned (λ e. is_below e.key) es
    → i ≡ index_in is_below es → slice_get es (i + 1) ≡ Some e → is_below e.key ≡ false
next_fails is_below es i e partitioned at there =
    grind (arith, cases_Bool (is_below e.key), passing_inside (λ (e : NodeEntry). is_below e.key) es (i + 1) e partitioned there)

-- Where the first entry passes, some item does.
first_passes : (is_below : ℕ → Bool) (under : NodeEntry → List Item) (es : List NodeEntry) → 1 ≤ length es
    → All (λ e. Describes e (under e)) es → ((e : NodeEntry) → slice_get es 0 ≡ Some e → is_below e.key ≡ true)
    → filter (λ x. is_below x.key) (flat_map under es) ≢ []
first_passes is_below under [] some describe first none = omega (arith, some)
first_passes is_below under (e ∷ es) some describe first none =
    let passes = some_answered is_below e (under e) (describe 0 e (omega arith)) (first e refl) in
    let count = simp (filter-append, length-append) at (ap length none) in
    omega (arith, passes, count)

-- A tree can be searched from its root: its first key is empty.
module _ {store : Store} {bound : KeyBound} {height slot : ℕ} (reach : CanReach store bound height slot) where
  pub root_known : IsFirstKnown store bound slot 0
  root_known e there =
      let first = reach.first e there in (
        first.1,
        λ text is.
            let empty = sym (known_bytes store.keys e.key text is) ∙ first.0 in
            subst (λ t. IsCommonPrefixLen 0 t bound.key.now) (sym empty) (describes_empty 0 bound.key.now),
      )

  pub some_reached : filter (λ x. is_below store.keys bound x.key) (items_in store.nodes height slot) ≢ []
  some_reached =
      let can = reach.searchable in
      let some = first_passes (is_below store.keys bound) (items_under store.nodes height) (entries_at store.nodes slot) can.some
      (node_describes store.nodes HALF_FULL height slot can.subtree) (λ e there. (reach.first e there).1) in
      rw (node_items store.nodes HALF_FULL height slot) some
