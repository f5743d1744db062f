-- The items before a bound, of those before another bound the last alone, below a node that is no leaf: those of the child that the
-- first bound is in, those of the children between, and those of the child that the second bound is in.
use Rattle.std.proofs.Common.{◌≡◌, ℕ, zero, suc, ◌+◌, ◌-◌, ◌<◌, ◌≤◌, ◌⊎◌, Bool, true, false, List, [], ◌∷◌, ◌++◌, length, get_or, filter, flat_map, All, arith, slice_range, take, drop, refl, ap, ◌∙◌, inl, inr, append-nil, append_assoc, take-add, take-append-drop}
use Rattle.std.proofs.lemmas.Grind.{flat_map-append}
use Rattle.std.proofs.lemmas.List.{drop-drop, drop_more, take_more}
use Rattle.std.proofs.lemmas.List.Elements.{All-take, All-drop, filter-append}
use Rattle.boundaries.proofs.Words.{Arena, NodeEntry, Node, Item, Describes, KeyBytes, IsSearchable, IsPartitioned, IsChild, IsSubtree, items_in}
use Rattle.boundaries.proofs.callers.Partitions.{All-back, none_fail, none_pass}
use Rattle.boundaries.proofs.FromLast.{from_last_of, from_last_on, from_last_part, from_last_parts}
use Rattle.boundaries.proofs.Looks.{IsLook, around_child, look_ordered, look_answers, items_partitioned, child_is, child_reached, first_inside, last_inside}
use Rattle.boundaries.proofs.AnsweredKeys.{last_passes, some_answered}
use Rattle.boundaries.proofs.Ways.{entries_partitioned, pass_before, fail_after_index}

-- at a look at such a node
module _ (nodes : Arena Node) (least height slot : ℕ) (f t : ℕ → Bool) (es : List NodeEntry)
    (begin end : ℕ) (k : IsLook nodes least height slot f t es begin end) (some : height ≡ 0 → ⊥) where
  abbrev items_at : NodeEntry → List Item
  items_at e = items_in nodes (height - 1) e.child

  -- a bound through the items, and the index of the last entry below it
  module _ (b : ℕ → Bool) (partitioned : IsPartitioned (λ x. b x.key) (items_in nodes height slot)) (i : ℕ)
      (at : i ≡ length (filter (λ e. b e.key) es) - 1) where
    through : IsPartitioned (λ x. b x.key) (flat_map items_at es)
    through = items_partitioned nodes least height slot f t es begin end k some b partitioned

    tell_all : All (λ e. Describes e (items_at e)) es
    tell_all = look_answers nodes least height slot f t es begin end k some

    pub pass_before_index : All (λ x. b x.key ≡ true) (flat_map items_at (take i es))
    pass_before_index = rw at (pass_before b items_at es tell_all through)

    pub fail_behind_index : All (λ x. b x.key ≡ false) (flat_map items_at (drop (i + 1) es))
    fail_behind_index = rw at (fail_after_index b items_at es tell_all through)

    -- the entry there, which is below the bound
    module _ (e : NodeEntry) (inside : i < length es) (is : e ≡ get_or es i e) (passes : b e.key ≡ true) where
      abbrev passing : Item → Bool
      passing x = b x.key

      apart_at : items_in nodes height slot ≡ flat_map items_at (take i es) ++ (items_at e ++ flat_map items_at (drop (i + 1) es))
      apart_at = around_child nodes least height slot f t es begin end k some i e inside is

      -- the items from the last one before the bound on
      pub from_index : from_last_of passing (λ x. true) (items_in nodes height slot)
          ≡ from_last_of passing (λ x. true) (items_at e) ++ flat_map items_at (drop (i + 1) es)
      from_index =
          let told = (child_is nodes least height slot f t es begin end k some i e inside is).describes in
          ap (from_last_of passing (λ x. true)) apart_at
          ∙ from_last_on passing (λ x. true) (λ x h. refl) _ (items_at e) _ pass_before_index
          (inr (some_answered b e (items_at e) told passes)) fail_behind_index
          ∙ ap (λ ys. from_last_of passing (λ x. true) (items_at e) ++ ys) (none_fail (λ (x : Item). true) _ (λ i d inside. refl)).0

      -- and those before it
      pub before_index : filter passing (items_in nodes height slot)
          ≡ flat_map items_at (take i es) ++ filter passing (items_at e)
      before_index =
          let front = (none_fail passing (flat_map items_at (take i es)) pass_before_index).0 in
          let back = (none_pass passing (flat_map items_at (drop (i + 1) es)) fail_behind_index).0 in
          ap (filter passing) apart_at ∙ simp (filter-append, front, back, append-nil)

-- a look at such a node, with the entries of the two children
pub record AreHalves (nodes : Arena Node) (least height slot : ℕ) (f t : ℕ → Bool) : Type 0 where
  pub es : List NodeEntry
  pub begin : ℕ
  pub end : ℕ
  pub look : IsLook nodes least height slot f t es begin end
  pub some : height ≡ 0 → ⊥
  pub first : ℕ
  pub last : ℕ
  pub first_is : first ≡ begin - 1
  pub last_is : last ≡ end - 1
  pub left : NodeEntry
  pub right : NodeEntry
  pub left_at : left ≡ get_or es first left
  pub right_at : right ≡ get_or es last right

module _ {nodes : Arena Node} {least height slot : ℕ} {f t : ℕ → Bool}
    (h : AreHalves nodes least height slot f t) where
  abbrev below : NodeEntry → List Item
  below e = items_in nodes (height - 1) e.child

  abbrev pub left_items : List Item
  left_items = below h.left

  abbrev pub right_items : List Item
  right_items = below h.right

  abbrev pub middle : List NodeEntry
  middle = slice_range h.es (h.first + 1) h.last

  abbrev pub middle_items : List Item
  middle_items = flat_map below middle

  abbrev pub p : Item → Bool
  p x = f x.key

  abbrev pub q : Item → Bool
  q x = t x.key

  abbrev pub left_from_last : List Item
  left_from_last = from_last_of p (λ x. true) left_items

  abbrev pub right_before : List Item
  right_before = filter q right_items

  first_within : h.first < length h.es
  first_within = omega (arith, first_inside _ _ _ _ _ _ _ _ _ h.look h.some, h.first_is)

  last_within : h.last < length h.es
  last_within = omega (arith, last_inside _ _ _ _ _ _ _ _ _ h.look h.some, h.last_is)

  pub left_is : IsChild nodes least (height - 1) (IsSubtree nodes least (height - 1)) h.left
  left_is = child_is _ _ _ _ _ _ _ _ _ h.look h.some h.first h.left first_within h.left_at

  pub right_is : IsChild nodes least (height - 1) (IsSubtree nodes least (height - 1)) h.right
  right_is = child_is _ _ _ _ _ _ _ _ _ h.look h.some h.last h.right last_within h.right_at

  around_left : items_in nodes height slot
      ≡ flat_map below (take h.first h.es) ++ (left_items ++ flat_map below (drop (h.first + 1) h.es))
  around_left = around_child _ _ _ _ _ _ _ _ _ h.look h.some h.first h.left first_within h.left_at

  describe : All (λ e. Describes e (below e)) h.es
  describe = look_answers _ _ _ _ _ _ _ _ _ h.look h.some

  pub middle_describes : All (λ e. Describes e (below e)) middle
  middle_describes = All-take (λ e. Describes e (below e)) _ _ (All-drop (λ e. Describes e (below e)) (h.first + 1) h.es describe)

  -- what the searches in the two children ask of their bounds
  pub left_reached : {bytes : KeyBytes} {is_below : ℕ → Bool} → IsSearchable bytes is_below nodes least height slot → 1 ≤ least
      → IsSearchable bytes is_below nodes least (height - 1) h.left.child
  left_reached = child_reached _ _ _ _ _ _ _ _ _ h.look h.some h.first h.left first_within h.left_at

  pub right_reached : {bytes : KeyBytes} {is_below : ℕ → Bool} → IsSearchable bytes is_below nodes least height slot → 1 ≤ least
      → IsSearchable bytes is_below nodes least (height - 1) h.right.child
  right_reached = child_reached _ _ _ _ _ _ _ _ _ h.look h.some h.last h.right last_within h.right_at

  -- which items stand before the two bounds, and behind them
  from_items : IsPartitioned (λ x. f x.key) (flat_map below h.es)
  from_items = items_partitioned _ _ _ _ _ _ _ _ _ h.look h.some f h.look.from

  front : All (λ x. f x.key ≡ true) (flat_map below (take h.first h.es))
  front = pass_before_index _ _ _ _ _ _ _ _ _ h.look h.some f h.look.from h.first (h.first_is ∙ ap (λ n. n - 1) h.look.begin_is)

  later : All (λ x. f x.key ≡ false) (flat_map below (drop (h.first + 1) h.es))
  later = fail_behind_index _ _ _ _ _ _ _ _ _ h.look h.some f h.look.from h.first (h.first_is ∙ ap (λ n. n - 1) h.look.begin_is)

  sooner : All (λ x. t x.key ≡ true) (flat_map below (take h.last h.es))
  sooner = pass_before_index _ _ _ _ _ _ _ _ _ h.look h.some t h.look.to h.last (h.last_is ∙ ap (λ n. n - 1) h.look.end_is)

  back : All (λ x. t x.key ≡ false) (flat_map below (drop (h.last + 1) h.es))
  back = fail_behind_index _ _ _ _ _ _ _ _ _ h.look h.some t h.look.to h.last (h.last_is ∙ ap (λ n. n - 1) h.look.end_is)

  -- The left child has items below the first bound, or else none stands before it.
  left_some : (flat_map below (take h.first h.es) ≡ []) ⊎ (1 ≤ length (filter (λ x. f x.key) left_items))
  left_some = by_count h.begin refl
    where
      by_count : (n : ℕ) → h.begin ≡ n
          → (flat_map below (take h.first h.es) ≡ []) ⊎ (1 ≤ length (filter (λ x. f x.key) left_items))
      by_count zero e = let z : h.first ≡ 0 = omega (arith, h.first_is, e) in inl (rw z refl)
      by_count (suc n) e =
          let partitioned = entries_partitioned f below h.es describe from_items in
          let passes = last_passes f h.es h.first h.left partitioned (omega (arith, h.look.begin_is, e))
          (h.first_is ∙ ap (λ n. n - 1) h.look.begin_is) h.left_at in
          inr (some_answered f h.left left_items left_is.describes passes)

  -- the two children are apart, or the same
  pub apart : (h.first ≡ h.last → ⊥) → (h.first + 1 ≤ h.last) × (h.last < length h.es)
  apart two = (omega (arith, look_ordered _ _ _ _ _ _ _ _ _ h.look, h.first_is, h.last_is), last_within)

  pub in_one : h.first ≡ h.last → from_last_of p q (items_in nodes height slot) ≡ from_last_of p q left_items
  in_one same =
      ap (from_last_of p q) around_left
      ∙ from_last_part p q (λ x. h.look.nested x.key) _ left_items _ front left_some (rw (← same) at back)

  pub in_two : (h.first ≡ h.last → ⊥)
      → from_last_of p q (items_in nodes height slot) ≡ left_from_last ++ (middle_items ++ right_before)
  in_two two =
      let i = h.first in
      let j = h.last in
      let k = j - (i + 1) in
      let at : i + 1 + k ≡ j = omega (arith, (apart two).0) in
      let l = get_or h.es i h.left in
      let r = get_or h.es j h.right in
      let a = flat_map below (take i h.es) in
      let b = flat_map below (drop (j + 1) h.es) in
      let following = flat_map-append below middle (r ∷ drop (j + 1) h.es) in
      let rest : flat_map below (drop (i + 1) h.es) ≡ middle_items ++ (below r ++ b) =
      cc (following, take-append-drop k (drop (i + 1) h.es), drop-drop k (i + 1) h.es, drop_more h.es j h.right last_within) in
      let here = append_assoc (take i h.es) (l ∷ []) middle in
      let before = flat_map-append below (take i h.es) (l ∷ middle) in
      let begin : flat_map below (take j h.es) ≡ a ++ (below l ++ middle_items) =
      cc (before, here, take-add (i + 1) k h.es, take_more h.es i h.left first_within) in
      let rest = rw (← h.right_at) at rest in
      let begin = rw (← h.left_at) at begin in
      ap (from_last_of p q) (around_left ∙ ap (λ xs. a ++ (left_items ++ xs)) rest)
      ∙ from_last_parts p q (λ x. h.look.nested x.key) a left_items middle_items right_items b front left_some (rw rest at later)
      (All-back (λ x. q x ≡ true) a _ (rw begin at sooner)) back
