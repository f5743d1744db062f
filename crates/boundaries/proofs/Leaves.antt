-- What the leaf that a bound finds says of the items below the bound.
use Rattle.std.proofs.Common.{◌≡◌, ℕ, zero, suc, ◌+◌, ◌-◌, ◌≤◌, inl, inr, Bool, true, false, List, [], ◌∷◌, ◌++◌, Option, Some, length, get_or, slice_get, take, drop, filter, flat_map, map, All, refl, sym, ◌∙◌, ap, arith, MatchOption}
use Rattle.std.proofs.lemmas.Option.{slice_get-get_or}
use Rattle.std.proofs.lemmas.List.{drop_all, drop_more, take-append-drop, append-nil, append_assoc, map-append}
use Rattle.std.proofs.lemmas.List.Elements.{All-head, All-append, All-map, filter-append}
use Rattle.boundaries.proofs.Words.{Arena, NodeEntry, Node, Item, item_of, IsPartitioned, index_in, child_in, leaf_in, before_leaf, after_leaf, items_below, entries_at, items_in, IsSubtree, IsLast}
use Rattle.boundaries.proofs.callers.Times.{none_or_some}
use Rattle.boundaries.proofs.callers.Partitions.{not_both, none_pass, none_passed, none_fail, IsPartitioned-parts}
use Rattle.boundaries.proofs.HeadCounts.{passing_at}
use Rattle.boundaries.proofs.Found.{partitioned-entries}
use Rattle.boundaries.proofs.Keys.{filter-items as filter_items}
use Rattle.boundaries.proofs.Ways.{way}

-- the last of those that pass does
pub index_passes : {X : Type 0} (p : X → Bool) (xs : List X) (x : X) → IsPartitioned p xs → 1 ≤ length (filter p xs)
    → slice_get xs (length (filter p xs) - 1) ≡ Some x → p x ≡ true
index_passes p xs x partitioned some is = passing_at p xs (length (filter p xs) - 1) x partitioned is (omega arith)

-- Where no entry of the leaf passes, no item of the subtree does, and none stands before the leaf.
none_before : (nodes : Arena Node) (least height slot : ℕ) (is_below : ℕ → Bool) → IsSubtree nodes least height slot
    → IsPartitioned (λ x. is_below x.key) (items_in nodes height slot)
    → filter (λ e. is_below e.key) (entries_at nodes (leaf_in nodes height slot is_below)) ≡ []
    → (before_leaf nodes height slot is_below ≡ []) × All (λ x. is_below x.key ≡ false) (items_in nodes height slot)
none_before nodes least zero slot is_below s c none =
    let es = entries_at nodes slot in
    let fail : All (λ (e : NodeEntry). is_below e.key ≡ false) es = none_passed (λ (e : NodeEntry). is_below e.key) es none in
    (refl, All-map (λ (x : Item). is_below x.key ≡ false) item_of es fail)
none_before nodes least (suc height) slot is_below s c none =
    let w = way nodes least height slot is_below s c in
    let es = entries_at nodes slot in
    let p = λ (e : NodeEntry). is_below e.key in
    let Fails = λ (x : Item). is_below x.key ≡ false in
    let below = λ (e : NodeEntry). items_in nodes height e.child in
    let i = none_before nodes least height (child_in is_below es) is_below (rw w.child at w.kept.subtree)
    (rw w.child at w.partitioned) none in
    let all : All Fails (below w.entry) = rw w.child i.1 in
    let t = w.kept.describes in
    let fails = rw (← t.key) at (All-head Fails t.first t.others (rw t.items_are at all)) in
    elim (none_or_some (length (filter p es))) [
      | inl zero_pass ↦
          let at : index_in is_below es ≡ 0 = omega arith in
          let front : flat_map below (take (index_in is_below es) es) ≡ [] = rw at refl in
          let items = rw front at w.items in (
            rw front i.0,
            rw items (All-append Fails (below w.entry) (flat_map below (drop (index_in is_below es + 1) es)) all w.following),
          )
      | inr some ↦ absurd (not_both (is_below w.entry.key) (index_passes p es w.entry w.entries some w.is) fails)
    ]

pub filter-items : (q : ℕ → Bool) (es : List NodeEntry)
    → filter (λ (x : Item). q x.key) (map item_of es) ≡ map item_of (filter (λ (e : NodeEntry). q e.key) es)
filter-items q es = filter_items (λ (x : Item). q x.key) es

-- entries whose items are partitioned are partitioned
pub entries_of_partitioned : (is_below : ℕ → Bool) (es : List NodeEntry)
    → IsPartitioned (λ x. is_below x.key) (map item_of es) → IsPartitioned (λ e. is_below e.key) es
entries_of_partitioned is_below es c = partitioned-entries (λ (x : Item). is_below x.key) es c

-- the entries of a leaf, between the items before it, which pass, and those behind it, which fail
pub record IsLeaf (is_below : ℕ → Bool) (items before after : List Item) (es : List NodeEntry) : Type 0 where
  pub items_are : items ≡ before ++ (map item_of es ++ after)
  pub pass : All (λ x. is_below x.key ≡ true) before
  pub fail : All (λ x. is_below x.key ≡ false) after
  pub none : filter (λ e. is_below e.key) es ≡ [] → before ≡ []

module _ (is_below : ℕ → Bool) (items before after : List Item) (es : List NodeEntry)
    (leaf : IsLeaf is_below items before after es) where
  -- the items below the bound, and the others
  pub passing_is : items_below is_below items ≡ before ++ map item_of (filter (λ e. is_below e.key) es)
  passing_is =
      let p = λ (x : Item). is_below x.key in
      let front = (none_fail p before leaf.pass).0 in
      let back = (none_pass p after leaf.fail).0 in
      simp (leaf.items_are, filter-append, front, back, append-nil, filter-items is_below es)

  pub leaf_partitioned_by_keys : IsPartitioned (λ x. is_below x.key) items → IsPartitioned (λ e. is_below e.key) es
  leaf_partitioned_by_keys partitioned =
      let p = λ (x : Item). is_below x.key in
      let rest = (IsPartitioned-parts p before (map item_of es ++ after) (rw leaf.items_are at partitioned)).1 in
      entries_of_partitioned is_below es (IsPartitioned-parts p (map item_of es) after rest).0

-- the last of a list, if there is one
match_last : {X : Type 0} (P : Type 0) (Q : X → Type 0) (xs : List X) (result : Option X) → result ≡ slice_get xs (length xs - 1)
    → (xs ≡ [] → P) → ((x : X) → IsLast x xs → Q x) → MatchOption result P Q
match_last P Q [] result is none some = rw is (none refl)
match_last P Q (x ∷ xs) result is none some =
    let all = x ∷ xs in
    let i = length xs in
    let last = get_or all i x in
    let less : suc i - 1 ≡ i = omega arith in
    let e : result ≡ Some last = is ∙ rw less (slice_get-get_or all i x (omega arith)) in
    let parts : all ≡ take i all ++ last ∷ [] =
    cc (take-append-drop i all, drop_more all i x (omega arith), drop_all (i + 1) all (omega arith)) in
    rw e (some last (take i all, parts))

-- The last entry below the bound is the last such item.
pub last_passing : (is_below : ℕ → Bool) (items before after : List Item) (es passed : List NodeEntry) (result : Option NodeEntry)
    → IsLeaf is_below items before after es → passed ≡ filter (λ e. is_below e.key) es
    → result ≡ slice_get passed (length passed - 1)
    → MatchOption result (items_below is_below items ≡ []) (λ e. IsLast (item_of e) (items_below is_below items))
last_passing is_below items before after es passed result leaf same is =
    let front : items_below is_below items ≡ before ++ map item_of passed =
    rw same (passing_is is_below items before after es leaf) in
    match_last _ _ passed result is (λ none. (rw (front, none, leaf.none (sym same ∙ none)) refl)) (λ e last. (
      before ++ map item_of last.0,
      cc (front, last.1, map-append item_of last.0 (e ∷ []), append_assoc before (map item_of last.0) (item_of e ∷ [])),
    ))

-- the leaf that a bound finds is one
pub is_leaf : (nodes : Arena Node) (least height slot : ℕ) (is_below : ℕ → Bool) (leaf : ℕ) (es : List NodeEntry)
    → IsSubtree nodes least height slot → IsPartitioned (λ x. is_below x.key) (items_in nodes height slot)
    → leaf ≡ leaf_in nodes height slot is_below → entries_at nodes leaf ≡ es
    → items_in nodes height slot
    ≡ before_leaf nodes height slot is_below ++ (map item_of (entries_at nodes leaf) ++ after_leaf nodes height slot is_below)
    → All (λ x. is_below x.key ≡ true) (before_leaf nodes height slot is_below)
    → All (λ x. is_below x.key ≡ false) (after_leaf nodes height slot is_below)
    → IsLeaf is_below (items_in nodes height slot) (before_leaf nodes height slot is_below)
    (after_leaf nodes height slot is_below) es
is_leaf nodes least height slot is_below leaf es s c way same items pass fail =
    let there : entries_at nodes (leaf_in nodes height slot is_below) ≡ es = ap (entries_at nodes) (sym way) ∙ same in
    record {
      items_are = rw same at items;
      pass = pass;
      fail = fail;
      none = λ none. (none_before nodes least height slot is_below s c (ap (filter (λ e. is_below e.key)) there ∙ none)).0;
    }
