-- What a search by heads tells of the items before a bound, of those before another bound the last alone.
use Rattle.std.proofs.Common.{◌≡◌, ℕ, zero, suc, ◌+◌, ◌-◌, ◌<◌, ◌≤◌, Bool, true, false, List, [], ◌∷◌, ◌++◌, Option, Some, IsTrue, ◌↔◌, length, get_or, slice_get, drop, filter, flat_map, map, All, refl, ◌∙◌, ap, inl, inr, arith, append-nil, append_assoc, ℤ, ◌<ℤ◌, ◌≤ℤ◌, slice_range, Any}
use Rattle.std.proofs.lemmas.List.{length-map}
use Rattle.std.proofs.lemmas.List.Elements.{All-drop, All-filter, All-nil}
use Rattle.boundaries.proofs.Words.{Arena, NodeEntry, Node, Item, Describes, item_of, IsPartitioned, from_last, Answers, items_in}
use Rattle.boundaries.proofs.Above.{IsAbove, leaf_above, not_above}
use Rattle.boundaries.proofs.callers.Partitions.{All-front, none_pass, none_fail, IsPartitioned-parts, rest_fails}
use Rattle.boundaries.proofs.FromLast.{from_last_of, from_last_part}
use Rattle.boundaries.proofs.GreatestParts.{Bounds}
use Rattle.boundaries.proofs.Keys.{filter-items}
use Rattle.boundaries.proofs.Looks.{IsLook, around_child, leaf_from_last}
use Rattle.boundaries.proofs.AnsweredKeys.{some_answered}

-- Where the entry's version isn't above it, no item's is.
none_answered : (v : ℤ) (e : NodeEntry) (items : List Item) → Describes e items → e.version ≤ℤ v → (p q : Item → Bool)
    → IsAbove v (from_last_of p q items) → ⊥
none_answered v e items t le p q a =
    let passed = All-filter q (Bounds e.version) items t.greatest.bound in
    not_above v e.version _ (All-drop (Bounds e.version) (length (filter p items) - 1) (filter q items) passed) le a

-- None of these is below the bound.
abbrev AllFail : (ℕ → Bool) → List Item → Type 0
AllFail is_below items = All (λ x. is_below x.key ≡ false) items

-- that `next` tells of some items and those behind them that none passes, where `clear` tells it of those behind
abbrev pub Clears : (ℕ → Bool) → Bool → Bool → List Item → Type 0
Clears q clear next back =
    (after : List Item) → (IsTrue clear → AllFail q after) → IsPartitioned (λ x. q x.key) (back ++ after) → IsTrue next
    → AllFail q (back ++ after)

-- No item of these children passes if the first entry doesn't. Where there is none, it is told of the items behind them.
pub clears_after : (q : ℕ → Bool) (below : NodeEntry → List Item) (es : List NodeEntry) (i : ℕ) (clear next : Bool)
    → All (λ e. Describes e (below e)) es → (IsTrue next → (e : NodeEntry) → slice_get es i ≡ Some e → q e.key ≡ false)
    → (IsTrue next → length es ≤ i → IsTrue clear) → Clears q clear next (flat_map below (drop i es))
clears_after q below [] zero clear next describe fails last after k partitioned t = k (last t (omega arith))
clears_after q below [] (suc i) clear next describe fails last after k partitioned t = k (last t (omega arith))
clears_after q below (e ∷ es) zero clear next describe fails last after k partitioned t =
    let h = describe 0 e (omega arith) in
    rw h.items_are
    (rest_fails (λ (x : Item). q x.key) h.first _ (rw h.items_are at partitioned) (rw (← h.key) (fails t e refl)))
clears_after q below (e ∷ es) (suc i) clear next describe fails last after k partitioned t =
    clears_after q below es i clear next (λ k d inside. describe (suc k) d (omega arith)) fails (λ t le. last t (omega (arith, le)))
    after k partitioned t

module _ (p q : ℕ → Bool) (v : ℤ) (n : (key : ℕ) → p key ≡ true → q key ≡ true) where
  -- What is told of a part is told of the whole.
  answered_wider : (items front part back : List Item) (clear next : Bool) (result : Option Bool)
      → items ≡ front ++ (part ++ back) → Clears q clear next back → Answers p q v next part result
      → Answers p q v clear items result
  answered_wider items front part back clear next result parts clears answered before after k c d =
      let same : before ++ (items ++ after) ≡ (before ++ front) ++ (part ++ (back ++ after)) = rw parts (simp append_assoc) in
      let cq = rw same at d in
      let rest = (IsPartitioned-parts (λ (x : Item). q x.key) (before ++ front) (part ++ (back ++ after)) cq).1 in
      let last = (IsPartitioned-parts (λ (x : Item). q x.key) part (back ++ after) rest).1 in
      rw same (answered (before ++ front) (back ++ after) (clears after k last) (rw same at c) cq)

  -- Where some items are below the first bound and none behind them is below the second one, the others don't count.
  answered_part : (part : List Item) (clear b : Bool) → 1 ≤ length (filter (λ x. p x.key) part)
      → ((after : List Item) → (IsTrue clear → AllFail q after) → IsPartitioned (λ x. q x.key) (part ++ after) → AllFail q after)
      → (IsTrue b ↔ IsAbove v (from_last_of (λ x. p x.key) (λ x. q x.key) part)) → Answers p q v clear part (Some b)
  answered_part part clear b some following answer before after k c d =
      let front : All (λ (x : Item). p x.key ≡ true) before =
      elim (IsPartitioned-parts (λ (x : Item). p x.key) before (part ++ after) c).2 [
        | inl all ↦ all
        | inr fail ↦
            let z = none_pass (λ (x : Item). p x.key) part (All-front (λ (x : Item). p x.key ≡ false) part after fail) in
            absurd (omega (arith, some, ap length z.0))
      ] in
      let rest = (IsPartitioned-parts (λ (x : Item). q x.key) before (part ++ after) d).1 in
      rw (from_last_part _ (λ (x : Item). q x.key) (λ x. n x.key) before part after front (inr some) (following after k rest)) answer

  -- what is told of all items
  pub answered_of_all : (items : List Item) (b : Bool) → Answers p q v true items (Some b) → IsPartitioned (λ x. p x.key) items
      → IsPartitioned (λ x. q x.key) items → (IsTrue b ↔ IsAbove v (from_last p (Some q) items))
  answered_of_all items b answered c d =
      rw append-nil at (answered [] [] (λ _. All-nil (λ (x : Item). q x.key ≡ false)) (rw append-nil c) (rw append-nil d))

  -- what an entry tells whose version isn't above it
  pub answered_by_entry : (e : NodeEntry) (part : List Item) (clear : Bool) → Describes e part → p e.key ≡ true → clear ≡ true
      → e.version ≤ℤ v → Answers p q v clear part (Some false)
  answered_by_entry e part clear t is_below c le =
      answered_part part clear false (some_answered p e part t is_below) (λ after k d. k c)
      ((λ yes. absurd (cc)), (λ above. absurd (none_answered v e part t le (λ x. p x.key) (λ x. q x.key) above)))

-- below a node
module _ (nodes : Arena Node) (least height slot : ℕ) (p q : ℕ → Bool) (es : List NodeEntry)
    (begin end : ℕ) (k : IsLook nodes least height slot p q es begin end) (v : ℤ) (clear : Bool) where
  -- what the entries of a leaf tell
  pub answered_by_leaf : (b : Bool) → height ≡ 0 → 1 ≤ begin → (end ≡ length es → clear ≡ true)
      → (IsTrue b ↔ Any (λ e. v <ℤ e.version) (slice_range es (begin - 1) end))
      → Answers p q v clear (items_in nodes height slot) (Some b)
  answered_by_leaf b z some all answer =
      let at : items_in nodes height slot ≡ map item_of es = rw (z, k.read) refl in
      rw at
      (answered_part p q v k.nested (map item_of es) clear b (omega (arith, counts p, k.begin_is))
      (λ after clears partitioned. elim (IsPartitioned-parts (λ (x : Item). q x.key) (map item_of es) after partitioned).2 [
        | inl pass ↦
            let entire = (none_fail (λ (x : Item). q x.key) (map item_of es) pass).0 in
            clears (all (omega (arith, counts q, k.end_is, ap length entire, length-map es item_of)))
        | inr fail ↦ fail
      ])
      (leaf_above v b _ (slice_range es (begin - 1) end)
      (rw at at (leaf_from_last nodes least height slot p q es begin end k z (begin - 1) refl)) answer))
    where
      counts : (f : ℕ → Bool) → length (filter (λ x. f x.key) (map item_of es)) ≡ length (filter (λ e. f e.key) es)
      counts f = ap length (filter-items (λ (x : Item). f x.key) es) ∙ length-map (filter (λ (e : NodeEntry). f e.key) es) item_of

  -- What is told of the items of a child is told of those of the node.
  pub answered_by_child : (height ≡ 0 → ⊥) → (i : ℕ) (e : NodeEntry) → i < length es → e ≡ get_or es i e → (next : Bool)
      (result : Option Bool) → Clears q clear next (flat_map (λ e. items_in nodes (height - 1) e.child) (drop (i + 1) es))
      → Answers p q v next (items_in nodes (height - 1) e.child) result
      → Answers p q v clear (items_in nodes height slot) result
  answered_by_child some i e inside is next result =
      let below = λ (e : NodeEntry). items_in nodes (height - 1) e.child in
      answered_wider p q v k.nested _ _ (below e) _ clear next result
      (around_child nodes least height slot p q es begin end k some i e inside is)
