-- The greatest of a version and those of items, in parts.
use Rattle.std.proofs.Common.{◌≡◌, ℕ, ◌+◌, ◌<◌, Bool, List, [], ◌∷◌, ◌++◌, length, get_or, take, drop, filter, flat_map, map, All, Any, refl, sym, subst, ◌∙◌, inl, inr, arith, append_assoc, ℤ, ◌≤ℤ◌, SFits, w64, to_z, of_z}
use Rattle.std.specs.Int.{int_max}
use Rattle.std.proofs.lemmas.Int.{ints, to_z-of_z}
use Rattle.std.proofs.lemmas.List.{take_more}
use Rattle.std.proofs.lemmas.List.Elements.{All-append, All-drop, All-filter, All-map, All-push, All-weaker}
use Rattle.std.proofs.lemmas.List.Quantifiers.{Any-push}
use Rattle.keys.proofs.callers.SomeElement.{Any-left, Any-map, Any-parts, Any-right}
use Rattle.boundaries.specs.Item.{IsMost, item_version}
use Rattle.boundaries.proofs.Words.{NodeEntry, Item, Describes, item_of, version_of}
use Rattle.boundaries.proofs.callers.Partitions.{All-front, All-back}
use Rattle.boundaries.proofs.Greatest.{one_of_both}
use Rattle.boundaries.proofs.GreatestParts.{Bounds, Reaches, children_bound, children_reached, higher}

-- with one element more
pub most_next : {X : Type 0} (version_at : X → ℤ) (least : ℤ) (xs : List X) (i : ℕ) (x : X) (old new : ℤ) → i < length xs
    → x ≡ get_or xs i x → IsMost version_at least (take i xs) old → new ≡ int_max old (version_at x) → old ≤ℤ new
    → version_at x ≤ℤ new → IsMost version_at least (take (i + 1) xs) new
most_next {X} version_at least xs i x old new inside is known value above_old above_new =
    let seen = take i xs in
    let Below : X → Type 0 = λ y. version_at y ≤ℤ new in
    let before = All-weaker (λ y. version_at y ≤ℤ old) Below (λ y h. omega (arith, ints, h, above_old)) seen known.bound in
    rw (take_more xs i x inside, sym is) (record {
      bound = All-push Below seen x before above_new;
      least_bound = omega (arith, ints, known.least_bound, above_old);
      reached = elim (one_of_both old (version_at x)) [
        | inl e ↦ elim known.reached [
          | inl same ↦ inl (value ∙ sym e ∙ same)
          | inr one ↦ inr (rw (value ∙ sym e) (Any-left (λ y. version_at y ≡ old) seen (x ∷ []) one))
        ]
        | inr e ↦ inr (rw (value ∙ sym e) (Any-push (λ y. version_at y ≡ version_at x) seen x refl))
      ];
    })

-- of the entries of a leaf
pub most_leaf : (least v : ℤ) (es : List NodeEntry) → IsMost version_of least es v → IsMost item_version least (map item_of es) v
most_leaf least v es h = record {
  bound = All-map (Bounds v) item_of es h.bound;
  least_bound = h.least_bound;
  reached = elim h.reached [ inl same ↦ inl same | inr one ↦ inr (Any-map item_of (Reaches v) es one) ];
}

-- of whole children
pub most_children : (least v : ℤ) (below : NodeEntry → List Item) (es : List NodeEntry) → All (λ e. Describes e (below e)) es
    → IsMost version_of least es v → IsMost item_version least (flat_map below es) v
most_children least v below es describe h = record {
  bound = children_bound below v es describe h.bound;
  least_bound = h.least_bound;
  reached = elim h.reached [ inl same ↦ inl same | inr one ↦ inr (children_reached below v es describe one) ];
}

-- the items of one list, then those of another
pub most_append : (a b c : ℤ) (xs ys : List Item) → IsMost item_version a xs b → IsMost item_version b ys c
    → IsMost item_version a (xs ++ ys) c
most_append a b c xs ys g h = record {
  bound = All-append (Bounds c) xs ys (higher b c xs h.least_bound g.bound) h.bound;
  least_bound = omega (arith, ints, g.least_bound, h.least_bound);
  reached = elim h.reached [
    | inl same ↦ elim g.reached [
      | inl least ↦ inl (same ∙ least)
      | inr one ↦ inr (Any-left (Reaches c) xs ys (subst (λ v. Any (Reaches v) xs) (sym same) one))
    ]
    | inr one ↦ inr (Any-right (Reaches c) xs ys one)
  ];
}

most_swapped : (a b : ℤ) (xs ys : List Item) → IsMost item_version a (xs ++ ys) b → IsMost item_version a (ys ++ xs) b
most_swapped a b xs ys h = record {
  bound = All-append (Bounds b) ys xs (All-back (Bounds b) xs ys h.bound) (All-front (Bounds b) xs ys h.bound);
  least_bound = h.least_bound;
  reached = elim h.reached [
    | inl same ↦ inl same
    | inr one ↦ elim (Any-parts (Reaches b) xs ys one) [
      | inl first ↦ inr (Any-right (Reaches b) ys xs first)
      | inr second ↦ inr (Any-left (Reaches b) ys xs second)
    ]
  ];
}

-- of two parts, the second one first
pub most_of_two : (a b c : ℤ) (entire xs ys : List Item) → entire ≡ xs ++ ys → IsMost item_version a ys b → IsMost item_version b xs c
    → IsMost item_version a entire c
most_of_two a b c entire xs ys parts g h = rw parts (most_swapped a c ys xs (most_append a b c ys xs g h))

-- of three, the middle one first
pub most_of_three : (a b c d : ℤ) (entire l m r : List Item) → entire ≡ l ++ (m ++ r) → IsMost item_version a m b
    → IsMost item_version b l c → IsMost item_version c r d → IsMost item_version a entire d
most_of_three a b c d entire l m r parts i j k =
    rw (parts, ← append_assoc l m r) (most_append a c d (l ++ m) r (most_of_two a b c (l ++ m) l m refl i j) k)

-- A subtree that has none above the version is passed over.
pub most_passed : (least : ℤ) (e : NodeEntry) (xs : List Item) (n : ℕ) (q : Item → Bool) → Describes e xs → e.version ≤ℤ least
    → IsMost item_version least (drop n (filter q xs)) least
most_passed least e xs n q describes le = record {
  bound = All-drop (Bounds least) n (filter q xs)
      (All-filter q (Bounds least) xs (higher e.version least xs le describes.greatest.bound));
  least_bound = omega (arith, ints);
  reached = inl refl;
}

-- The code keeps a version as it is.
module _ {X : Type 0} {version_at : X → ℤ} {xs : List X} {least v : ℤ} where
  pub least_kept : SFits w64 least → IsMost version_at (to_z w64 (of_z w64 least)) xs v → IsMost version_at least xs v
  least_kept fits h = rw (to_z-of_z w64 least fits) at h

  pub most_kept : SFits w64 v → IsMost version_at least xs v → IsMost version_at least xs (to_z w64 (of_z w64 v))
  most_kept fits h = rw (to_z-of_z w64 v fits) h
