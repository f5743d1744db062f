-- What a bound through the items of a subtree says of its entries and of the children's subtrees.
use Rattle.std.proofs.Common.{◌≡◌, ℕ, suc, ◌+◌, ◌-◌, ◌<◌, ◌≤◌, ◌⊎◌, Bool, true, false, List, [], ◌∷◌, ◌++◌, Some, length, get_or, slice_get, pos, take, drop, filter, flat_map, All, refl, sym, ◌∙◌, ap, inl, inr, arith, length-append, length-take, take-append-drop, drop-drop}
use Rattle.std.proofs.lemmas.Bool.{cases_Bool}
use Rattle.std.proofs.lemmas.Option.{slice_get-get_or}
use Rattle.std.proofs.lemmas.List.{drop_more}
use Rattle.std.proofs.lemmas.Grind.{flat_map-append}
use Rattle.std.proofs.lemmas.List.Elements.{All-nil, All-drop, All-head, All-tail, filter-append}
use Rattle.boundaries.proofs.Words.{Arena, NodeEntry, Node, Item, Describes, IsPartitioned, index_in, child_in, items_of, entries_at, items_in, IsChild, IsSubtree}
use Rattle.boundaries.proofs.callers.Partitions.{none_pass, IsPartitioned-parts, rest_fails, length-items_below, after_partitioned, All-back, All-apart}

-- an element of a list, between those before it and those behind it
pub around_element : {X : Type 0} (xs : List X) (i : ℕ) (d : X) → i < length xs
    → xs ≡ take i xs ++ get_or xs i d ∷ drop (i + 1) xs
around_element xs i d lt = sym (take-append-drop i xs) ∙ ap (λ l. take i xs ++ l) (drop_more xs i d lt)

-- for entries of which each tells the first key of its child's items
module _ (is_below : ℕ → Bool) (below : NodeEntry → List Item) where
  abbrev pub AllDescribe : List NodeEntry → Type 0
  AllDescribe es = All (λ e. Describes e (below e)) es

  abbrev Fails : Item → Type 0
  Fails x = is_below x.key ≡ false

  abbrev Passes : Item → Type 0
  Passes x = is_below x.key ≡ true

  -- the items of the first entries, and those of the others
  entire : (i : ℕ) (es : List NodeEntry) → flat_map below es ≡ flat_map below (take i es) ++ flat_map below (drop i es)
  entire i es = ap (flat_map below) (sym (take-append-drop i es)) ∙ flat_map-append below (take i es) (drop i es)

  parts : (i : ℕ) (es : List NodeEntry) → IsPartitioned (λ x. is_below x.key) (flat_map below es)
      → IsPartitioned (λ x. is_below x.key) (flat_map below (drop i es))
      × (All Passes (flat_map below (take i es)) ⊎ All Fails (flat_map below (drop i es)))
  parts i es c =
      let p = IsPartitioned-parts (λ (x : Item). is_below x.key) (flat_map below (take i es)) (flat_map below (drop i es))
      (rw (entire i es) at c) in
      (p.1, p.2)

  entries_fail : (es : List NodeEntry) → AllDescribe es → All Fails (flat_map below es) → All (λ e. is_below e.key ≡ false) es
  entries_fail es t a = λ i d inside.
      let k = t i d inside in
      rw k.key (All-head Fails k.first k.others (rw k.items_are at (All-apart Fails below es a i d inside)))

  -- No item passes, where the first entry fails.
  all_fail : (es : List NodeEntry) → AllDescribe es → IsPartitioned (λ x. is_below x.key) (flat_map below es)
      → ((d : NodeEntry) → 0 < length es → is_below (get_or es 0 d).key ≡ false) → All Fails (flat_map below es)
  all_fail [] t c f = All-nil Fails
  all_fail (e ∷ es) t c f =
      let k = All-head (λ e. Describes e (below e)) e es t in
      rw k.items_are (rest_fails (λ (x : Item). is_below x.key) k.first (k.others ++ flat_map below es) (rw k.items_are at c)
      (rw k.key at (f e (omega arith))))

  -- the entries are partitioned by their keys
  pub entries_partitioned : (es : List NodeEntry) → AllDescribe es → IsPartitioned (λ x. is_below x.key) (flat_map below es)
      → IsPartitioned (λ e. is_below e.key) es
  entries_partitioned [] t c = refl
  entries_partitioned (e ∷ es) t c =
      let later = All-tail (λ e. Describes e (below e)) e es t in
      elim (cases_Bool (is_below e.key)) [
        | inl h ↦ rw h (ap (λ ys. e ∷ ys) (entries_partitioned es later (parts 1 (e ∷ es) c).0))
        | inr h ↦
            let fail = All-back Fails (below e) (flat_map below es) (all_fail (e ∷ es) t c (λ d some. h)) in
            let n = none_pass (λ (e : NodeEntry). is_below e.key) es (entries_fail es later fail) in
            rw (h, n.0, n.1) refl
      ]

  -- and so are the items of each child
  pub children_partitioned : (es : List NodeEntry) → IsPartitioned (λ x. is_below x.key) (flat_map below es)
      → All (λ e. IsPartitioned (λ x. is_below x.key) (below e)) es
  children_partitioned es c = λ i d inside.
      let rest = rw (drop_more es i d inside) at (parts i es c).0 in
      (IsPartitioned-parts (λ (x : Item). is_below x.key) (below (get_or es i d)) (flat_map below (drop (i + 1) es)) rest).0

  -- the items of all entries that pass do, but for those of the last
  pub pass_before : (es : List NodeEntry) → AllDescribe es → IsPartitioned (λ x. is_below x.key) (flat_map below es)
      → All Passes (flat_map below (take (length (filter (λ e. is_below e.key) es) - 1) es))
  pass_before es t c =
      let p = λ (e : NodeEntry). is_below e.key in
      let k = index_in is_below es in
      elim (parts k es c).1 [
        | inl all ↦ all
        | inr fail ↦
            let none = none_pass p (drop k es) (entries_fail (drop k es) (All-drop (λ e. Describes e (below e)) k es t) fail) in
            let count = simp (filter-append, length-append) at (ap (λ l. length (filter p l)) (take-append-drop k es)) in
            let zero : k ≡ 0 = omega (arith, count, ap length none.0, length-items_below p (take k es), length-take k es) in
            rw zero (All-nil Passes)
      ]

  -- no item behind the last entry below the bound, or else behind the first entry, does
  pub fail_after_index : (es : List NodeEntry) → AllDescribe es → IsPartitioned (λ x. is_below x.key) (flat_map below es)
      → All Fails (flat_map below (drop (index_in is_below es + 1) es))
  fail_after_index es t c =
      let n = length (filter (λ (e : NodeEntry). is_below e.key) es) in
      let i = index_in is_below es + 1 in
      let from : n + (i - n) ≡ i = omega arith in
      let following = after_partitioned (λ (e : NodeEntry). is_below e.key) es (entries_partitioned es t c) in
      let fail = rw (drop-drop (i - n) n es, from) at (All-drop (λ e. is_below e.key ≡ false) (i - n) (drop n es) following) in
      all_fail (drop i es) (All-drop (λ e. Describes e (below e)) i es t) (parts i es c).0 (fail 0)

  pub index_inside : (es : List NodeEntry) → 1 ≤ length es → index_in is_below es < length es
  index_inside es some = let le = length-items_below (λ (e : NodeEntry). is_below e.key) es in omega arith

-- what a bound says of the node of a subtree above its leaves
pub record IsWay (nodes : Arena Node) (least height slot : ℕ) (is_below : ℕ → Bool) : Type 0 where
  -- the entries are partitioned by their keys
  pub entries : IsPartitioned (λ e. is_below e.key) (entries_at nodes slot)
  -- the entry that the bound finds
  pub entry : NodeEntry
  pub is : slice_get (entries_at nodes slot) (index_in is_below (entries_at nodes slot)) ≡ Some entry
  pub child : entry.child ≡ child_in is_below (entries_at nodes slot)
  pub kept : IsChild nodes least height (IsSubtree nodes least height) entry
  pub partitioned : IsPartitioned (λ x. is_below x.key) (items_in nodes height entry.child)
  pub describe : All (λ e. Describes e (items_in nodes height e.child)) (entries_at nodes slot)
  -- all items of the children before it pass, and none of those behind it does
  pub before : All (λ x. is_below x.key ≡ true)
      (items_of nodes height (take (index_in is_below (entries_at nodes slot)) (entries_at nodes slot)))
  pub following : All (λ x. is_below x.key ≡ false)
      (items_of nodes height (drop (index_in is_below (entries_at nodes slot) + 1) (entries_at nodes slot)))
  pub items : items_in nodes (suc height) slot
      ≡ items_of nodes height (take (index_in is_below (entries_at nodes slot)) (entries_at nodes slot)) ++ (items_in nodes height
      entry.child ++ items_of nodes height (drop (index_in is_below (entries_at nodes slot) + 1) (entries_at nodes slot)))

pub way : (nodes : Arena Node) (least height slot : ℕ) (is_below : ℕ → Bool)
    → IsSubtree nodes least (suc height) slot → IsPartitioned (λ x. is_below x.key) (items_in nodes (suc height) slot)
    → IsWay nodes least height slot is_below
way nodes least height slot is_below s c =
    let below = λ (e : NodeEntry). items_in nodes height e.child in
    let es = entries_at nodes slot in
    let i = index_in is_below es in
    let inside = index_inside is_below below es s.1 in
    let default : NodeEntry = record { key = 0; child = 0; version = pos 0 } in
    let entry = get_or es i default in
    let is : slice_get es i ≡ Some entry = slice_get-get_or es i default inside in
    let describe : All (λ e. Describes e (below e)) es = λ k d within. (s.2 k d within).describes in
    record {
      entries = entries_partitioned is_below below es describe c;
      entry = entry;
      is = is;
      child = rw is refl;
      kept = s.2 i default inside;
      partitioned = children_partitioned is_below below es c i default inside;
      describe = describe;
      before = pass_before is_below below es describe c;
      following = fail_after_index is_below below es describe c;
      items = ap (flat_map below) (around_element es i default inside)
          ∙ flat_map-append below (take i es) (entry ∷ drop (i + 1) es);
    }
