-- Lemmas for callers: elements and parts of lists, and lists that go together.
use Rattle.std.proofs.Common.{◌≡◌, ℕ, zero, suc, ◌+◌, ◌-◌, ◌<◌, ◌≤◌, List, [], ◌∷◌, ◌++◌, length, get_or, take, drop, refl, ap, sym, subst, ◌∙◌, arith, length-drop, length-take, map}
use Rattle.std.specs.Prelude.{Some, slice_get, slice_range}
use Rattle.std.specs.List.{AllZip, All}
use Rattle.std.proofs.Math.Seq.{take-suc}
use Rattle.std.proofs.lemmas.List.{get_or-drop, get_or-take}
use Rattle.std.proofs.lemmas.Option.{get_or_from_slice_get, none-some, same_Some, slice_get-get_or, slice_get_within}
use Rattle.std.proofs.lemmas.Slice.Zip.{all_zipped_more}
use Rattle.std.proofs.lemmas.List.Elements.{All-head, All-tail, All-cons}

-- by the first index and the number of the elements
pub part_more : {X : Type 0} (xs : List X) (from n : ℕ) (x : X) → slice_get xs (from + n) ≡ Some x
    → take (n + 1) (drop from xs) ≡ take n (drop from xs) ++ x ∷ []
part_more xs from n x is =
    let within = slice_get_within xs (from + n) x is in
    let inside : n < length (drop from xs) = omega (arith, within, length-drop from xs) in
    let more : n + 1 ≡ suc n = omega arith in
    ap (λ k. take k (drop from xs)) more ∙ take-suc (drop from xs) n x inside
    ∙ ap (λ y. take n (drop from xs) ++ y ∷ []) (get_or-drop from xs n x ∙ get_or_from_slice_get xs (from + n) x x is)

-- by the first index and the one after the last
pub range_more : {X : Type 0} (xs : List X) (from to : ℕ) (x : X) → from ≤ to → slice_get xs to ≡ Some x
    → slice_range xs from (to + 1) ≡ slice_range xs from to ++ x ∷ []
range_more xs from to x rises is =
    let same : from + (to - from) ≡ to = omega (arith, rises) in
    let more : (to + 1) - from ≡ (to - from) + 1 = omega (arith, rises) in
    ap (λ k. take k (drop from xs)) more
    ∙ part_more xs from (to - from) x (ap (slice_get xs) same ∙ is)

-- with what goes with the element after what goes with the others
pub AllZip-more : {X Y : Type 0} (R : X → Y → Type 0) (xs : List X) (i : ℕ) (ys : List Y) (x : X) (y : Y)
    → slice_get xs i ≡ Some x → AllZip R (take i xs) ys → R x y → AllZip R (take (i + 1) xs) (ys ++ y ∷ [])
AllZip-more R xs i ys x y is all it =
    let at : 0 + i ≡ i = omega arith in
    subst (λ front. AllZip R front (ys ++ y ∷ [])) (sym (part_more xs 0 i x (ap (slice_get xs) at ∙ is))) (all_zipped_more R (take i xs) ys x y all it)

-- what the relation says at an index
pub AllZip-get : {X Y : Type 0} (R : X → Y → Type 0) (xs : List X) (ys : List Y) (i : ℕ) (x : X) (y : Y)
    → AllZip R xs ys → slice_get xs i ≡ Some x → slice_get ys i ≡ Some y → R x y
AllZip-get R [] ys i x y all at there = absurd (none-some x at)
AllZip-get R (first ∷ xs) [] i x y all at there = absurd all
AllZip-get {X = X} {Y = Y} R (first ∷ xs) (other ∷ ys) zero x y all at there =
    subst (λ (pair : X × Y). R pair.0 pair.1) (λ i. (same_Some first x at i, same_Some other y there i)) all.0
AllZip-get R (first ∷ xs) (other ∷ ys) (suc i) x y all at there = AllZip-get R xs ys i x y all.1 at there

-- what goes with each of two lists
pub AllZip-split : {X Y : Type 0} (R : X → Y → Type 0) (xs others : List X) (ys : List Y) → AllZip R (xs ++ others) ys
    → AllZip R xs (take (length xs) ys) × AllZip R others (drop (length xs) ys)
AllZip-split R [] others ys all = (tt, all)
AllZip-split R (x ∷ xs) others [] all = absurd all
AllZip-split R (x ∷ xs) others (y ∷ ys) all =
    let rest = AllZip-split R xs others ys all.1 in ((all.0, rest.0), rest.1)

-- the element that another one was made from
pub element_of_map : {X Y : Type 0} (f : X → Y) (xs : List X) (i : ℕ) (y : Y) → slice_get (map f xs) i ≡ Some y
    → (x : X) × (slice_get xs i ≡ Some x) × (f x ≡ y)
element_of_map f [] i y at = absurd (none-some y at)
element_of_map f (x ∷ xs) zero y at = (x, refl, same_Some (f x) y at)
element_of_map f (x ∷ xs) (suc i) y at = element_of_map f xs i y at

-- something stands at each index
pub some_at : {X : Type 0} (xs : List X) (i : ℕ) → i < length xs → (x : X) × (slice_get xs i ≡ Some x)
some_at [] i within = absurd (omega (arith, within))
some_at (x ∷ xs) zero within = (x, refl)
some_at (x ∷ xs) (suc i) within = some_at xs i (omega (arith, within))

-- an element of a part is one of the list
pub part_get : {X : Type 0} (xs : List X) (from to i : ℕ) (x : X) → slice_get (slice_range xs from to) i ≡ Some x
    → slice_get xs (from + i) ≡ Some x
part_get xs from to i x is =
    let part = take (to - from) (drop from xs) in
    let within = slice_get_within part i x is in
    let short : i < to - from = omega (arith, within, length-take (to - from) (drop from xs)) in
    let inside : from + i < length xs = omega (arith, within, length-take (to - from) (drop from xs), length-drop from xs) in
    slice_get-get_or xs (from + i) x inside
    ∙ ap (λ y. Some y)
    (sym (get_or-drop from xs i x) ∙ sym (get_or-take (to - from) (drop from xs) i x short) ∙ get_or_from_slice_get part i x x is)

-- what holds of two elements at the same place
pub AllZip-at : {X Y : Type 0} (R : X → Y → Type 0) (xs : List X) (ys : List Y) (i : ℕ) (x : X) (d : Y) → slice_get xs i ≡ Some x
    → AllZip R xs ys → R x (get_or ys i d)
AllZip-at R [] ys i x d is all = absurd cc
AllZip-at R (first ∷ xs) [] i x d is all = absurd all
AllZip-at {X} R (first ∷ xs) (other ∷ ys) zero x d is all =
    let same : first ≡ x = cc in subst (λ (e : X). R e other) same all.0
AllZip-at R (first ∷ xs) (other ∷ ys) (suc i) x d is all = AllZip-at R xs ys i x d is all.1

-- the images of one element more
take_map_suc : {X Y : Type 0} (f : X → Y) (xs : List X) (n : ℕ) (d : X) → n < length xs
    → take (suc n) (map f xs) ≡ take n (map f xs) ++ f (get_or xs n d) ∷ []
take_map_suc f [] n d inside = absurd (omega (arith, inside))
take_map_suc f (x ∷ xs) zero d inside = refl
take_map_suc f (x ∷ xs) (suc n) d inside = ap (λ l. f x ∷ l) (take_map_suc f xs n d (omega (arith, inside)))

pub take_map_more : {X Y : Type 0} (f : X → Y) (xs : List X) (n : ℕ) (d : X) → n < length xs
    → take (n + 1) (map f xs) ≡ take n (map f xs) ++ f (get_or xs n d) ∷ []
take_map_more f xs n d inside =
    let next : n + 1 ≡ suc n = omega arith in
    ap (λ (k : ℕ). take k (map f xs)) next ∙ take_map_suc f xs n d inside

-- what holds of all of a list holds of one of them and of all others
pub All-without : {X : Type 0} (P : X → Type 0) (before : List X) (x : X) (after : List X) → All P (before ++ x ∷ after)
    → P x × All P (before ++ after)
All-without P [] x after all = (All-head P x after all, All-tail P x after all)
All-without P (y ∷ before) x after all =
    let more = All-without P before x after (All-tail P y (before ++ x ∷ after) all) in
    (more.0, All-cons P y (before ++ after) (All-head P y (before ++ x ∷ after) all) more.1)
