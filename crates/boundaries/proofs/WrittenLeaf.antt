-- The items of a leaf of which a run is written over, and what tells whether the run is ended.
use Rattle.std.proofs.Common.{◌≡◌, ◌≢◌, ◌⊎◌, inl, inr, ℕ, ℤ, ◌<◌, ◌≤◌, Bool, true, false, not, List, [], ◌∷◌, ◌++◌, Option}
use Rattle.std.proofs.Common.{Some, None, length, get_or, slice_get, take, drop, filter, map, All, Any, refl, sym}
use Rattle.std.proofs.Common.{◌∙◌, ap, arith, is_some}
use Rattle.std.proofs.lemmas.List.{length-map, length-take-le, take-append-drop, drop_at, drop_more, drop_all}
use Rattle.std.proofs.lemmas.List.Elements.{All-nil, All-cons, All-head, All-append, All-filter, All-weaker, Contains-get_or, filter-append, filter_passes}
use Rattle.std.proofs.lemmas.Option.{slice_get_cases}
use Rattle.keys.proofs.callers.SomeElement.{Any-first, Any-right}
use Rattle.boundaries.specs.declared.entry.NodeEntry.{NodeEntry}
use Rattle.boundaries.specs.Item.{Item, item_of}
use Rattle.boundaries.specs.Overwrite.{IsOverwritten, IsPartOfPartitioned, first_is_below}
use Rattle.boundaries.specs.Path.{IsPartitioned, items_below, items_not_below, between, first_key}
use Rattle.boundaries.specs.Items.{ended_by}
use Rattle.boundaries.specs.Walk.{IsRaised}
use Rattle.boundaries.proofs.callers.Partitions.{All-back, none_fail, IsPartitioned-parts}
use Rattle.boundaries.proofs.Inserting.{ended_some}
use Rattle.boundaries.proofs.LeafChange.{parted}
use Rattle.boundaries.proofs.Leaves.{filter-items}
use Rattle.boundaries.proofs.Overwriting.{between_is}

-- A part of items that are partitioned is partitioned.
pub part_partitioned : (p : ℕ → Bool) (items : List Item) → IsPartOfPartitioned p items → IsPartitioned (λ x. p x.key) items
part_partitioned p items part =
    let back = (IsPartitioned-parts (λ (x : Item). p x.key) part.0 (items ++ part.1) part.2).1 in
    (IsPartitioned-parts (λ (x : Item). p x.key) items part.1 back).0

-- Where so many entries are below the bound, some item does.
pub some_item : (p : ℕ → Bool) (es : List NodeEntry) (n : ℕ) → 1 ≤ n → n ≡ length (filter (λ e. p e.key) es)
    → items_below p (map item_of es) ≢ []
some_item p es n some count none =
    let front = filter (λ (e : NodeEntry). p e.key) es in
    omega (arith, some, count, ap length (filter-items p es), length-map front item_of, ap length none)

-- so many entries are below the bound, and the items that do are theirs
pub items_parted : (p : ℕ → Bool) (es : List NodeEntry) (n : ℕ) → IsPartitioned (λ e. p e.key) es
    → n ≡ length (filter (λ e. p e.key) es)
    → (items_below p (map item_of es) ≡ map item_of (take n es)) × (items_not_below p (map item_of es) ≡ map item_of (drop n es))
items_parted p es n partitioned count =
    let parts = parted p es n partitioned count in (
      filter-items p es ∙ ap (map item_of) (sym parts.0),
      filter-items (λ key. not (p key)) es ∙ ap (map item_of) (sym parts.1),
    )

-- the items between two bounds are those of the entries there
pub between_entries : (p q : ℕ → Bool) → ((key : ℕ) → p key ≡ true → q key ≡ true) → (es : List NodeEntry) (begin end : ℕ)
    → IsPartitioned (λ e. p e.key) es → IsPartitioned (λ e. q e.key) es → begin ≤ length es
    → begin ≡ length (filter (λ e. p e.key) es) → end ≡ length (filter (λ e. q e.key) es)
    → between (Some p) (Some q) (map item_of es) ≡ map item_of (drop begin (take end es))
between_entries p q nested es begin end first_bound second_bound within begins ends =
    let there = λ (e : NodeEntry). q e.key in
    let from = (parted p es begin first_bound begins).0 in
    let to = (parted q es end second_bound ends).0 in
    let pass : All (λ (e : NodeEntry). q e.key ≡ true) (take begin es) =
    rw from (All-weaker _ _ (λ e. nested e.key) _ (filter_passes (λ (e : NodeEntry). p e.key) es)) in
    let split = filter-append there (take begin es) (drop begin es) in
    let all : take end es ≡ take begin es ++ filter there (drop begin es) =
    cc (to, take-append-drop begin es, split, (none_fail there (take begin es) pass).0) in
    between_is p q (map item_of es) ∙ ap (items_below q) (items_parted p es begin first_bound begins).1
    ∙ filter-items q (drop begin es)
    ∙ sym (ap (λ l. map item_of (drop begin l)) all ∙ ap (map item_of) (drop_at (take begin es) _ begin (length-take-le begin es within)))

-- the first key is that of the items in front
first_of_front : (xs ys zs : List Item) → xs ≢ [] → first_key None (xs ++ ys) ≡ first_key None (xs ++ zs)
first_of_front [] ys zs some = absurd (some refl)
first_of_front (x ∷ xs) ys zs some = refl

-- Where a run is written over that has an item before it, the first key stays, and the version of the first new item comes in.
pub raised : (p q : ℕ → Bool) → ((key : ℕ) → p key ≡ true → q key ≡ true) → (first : Item) (second : ℕ) (ended : Bool)
    (was now : List Item) → IsPartitioned (λ x. p x.key) was → items_below p was ≢ [] → items_below q was ≢ []
    → IsOverwritten p q first second None ended was now → IsRaised first.version was now
raised p q nested first second ended was now partitioned some some_second written =
    let end = ended_some (items_below q was) some_second in
    let x : Item = record { key = second; version = end.last.version } in
    let rest = first ∷ ended_by ended x ++ items_not_below q was in
    let now_is : now ≡ items_below p was ++ rest = written end.last (end.front, end.is) in
    let Known : Item → Type 0 = λ x. Any (λ (w : Item). x.version ≡ w.version) was in
    let P : Item → Type 0 = λ x. (x.version ≡ first.version) ⊎ Known x in
    let known : All Known was = λ k d within. let c = Contains-get_or was k d within in (c.0, get_or was k d, c.1, c.2, refl) in
    let own : All P was = All-weaker Known P (λ x k. inr k) was known in
    let last : Known end.last =
    All-head Known end.last [] (All-back Known end.front (end.last ∷ [])
    (rw end.is at (All-filter (λ (x : Item). q x.key) Known was known))) in
    let ends : All P (ended_by ended x) =
    (elim ended as (λ b. All P (ended_by b x)) [ true ↦ All-nil P | false ↦ All-cons P x [] (inr last) (All-nil P) ]) in
    record {
      first = cc (now_is, first_of_front (items_below p was) rest (items_not_below p was) some, partitioned);
      there = rw now_is (Any-right (λ (x : Item). x.version ≡ first.version) (items_below p was) rest (Any-first _ first _ refl));
      others = rw now_is
          (All-append P (items_below p was) rest (All-filter (λ (x : Item). p x.key) P was own)
          (All-cons P first _ (inl refl)
          (All-append P _ (items_not_below q was) ends (All-filter (λ (x : Item). not (q x.key)) P was own))));
    }

module _ (r : ℕ → Bool) (es : List NodeEntry) (end : ℕ) (otherwise : Option ℕ) (ended : Bool) where
  -- The next entry of the leaf tells whether the first key behind the second bound passes.
  pub ended_in_leaf : end < length es → ((e : NodeEntry) → slice_get es end ≡ Some e → ended ≡ r e.key)
      → ended ≡ first_is_below r (first_key otherwise (map item_of (drop end es)))
  ended_in_leaf within describes = elim (slice_get_cases es end).1 [
    | inl at ↦ rw (drop_more es end at.0 within, at.3) (describes at.0 at.2)
    | inr none ↦ absurd (omega (arith, none.0))
  ]

  -- Where there is none, the key behind the leaf does.
  pub ended_after : length es ≤ end → ended ≡ first_is_below r otherwise
      → ended ≡ first_is_below r (first_key otherwise (map item_of (drop end es)))
  ended_after all answered = rw (drop_all end es all) answered

-- no version is given where there is none
pub none_if : (o : Option ℤ) → is_some o ≡ false → o ≡ None
none_if None f = refl
none_if (Some v) f = absurd (cc)
