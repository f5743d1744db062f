-- Lemmas on the part of a list from one index up to another.
use Rattle.std.proofs.Common.{◌≡◌, ◌≤◌, ◌<◌, ◌+◌, ◌-◌, ℕ, List, ◌++◌, length, map, refl, sym, ap, ◌∙◌, All, Some, slice_get, slice_range, take, drop, get_or, arith, drop-drop, drop_at, take_all, take-add}
use Rattle.std.proofs.lemmas.List.{take-map, drop-map, take-append-le, get_or-map}
use Rattle.std.proofs.lemmas.List.Elements.{All-take, All-drop}
use Rattle.std.proofs.lemmas.Slice.{between_is}
use Rattle.std.proofs.lemmas.Option.{slice_get-get_or}

pub slice_range-map : {X Y : Type 0} (f : X → Y) (xs : List X) (from to : ℕ)
    → slice_range (map f xs) from to ≡ map f (slice_range xs from to)
slice_range-map f xs from to = ap (take (to - from)) (drop-map f from xs) ∙ take-map f (to - from) (drop from xs)

pub All-slice_range : {X : Type 0} (P : X → Type 0) (xs : List X) (from to : ℕ) → All P xs
    → All P (slice_range xs from to)
All-slice_range P xs from to all = All-take P (to - from) (drop from xs) (All-drop P from xs all)

-- a part stays when more is appended
pub slice_range-append : {X : Type 0} (xs more : List X) (from to : ℕ) → to ≤ length xs
    → slice_range (xs ++ more) from to ≡ slice_range xs from to
slice_range-append xs more from to within =
    between_is (xs ++ more) from to ∙ ap (drop from) (take-append-le to xs more within) ∙ sym (between_is xs from to)

-- what is appended is the part after the list
pub slice_range-appended : {X : Type 0} (xs more rest : List X) (to : ℕ) → to ≡ length xs + length more
    → slice_range (xs ++ (more ++ rest)) (length xs) to ≡ more
slice_range-appended xs more rest to e =
    ap (take (to - length xs)) (drop_at xs (more ++ rest) (length xs) refl)
    ∙ take-append-le (to - length xs) more rest (omega arith) ∙ take_all (to - length xs) more (omega arith)

-- two parts, in sequence
pub slice_range-join : {X : Type 0} (xs : List X) (from mid to : ℕ) → from ≤ mid → mid ≤ to
    → slice_range xs from mid ++ slice_range xs mid to ≡ slice_range xs from to
slice_range-join xs from mid to low high =
    let rest = drop from xs in
    let here : mid ≡ from + (mid - from) = omega arith in
    let all : to - from ≡ mid - from + (to - mid) = omega arith in
    ap (λ ys. take (mid - from) rest ++ take (to - mid) ys)
    (ap (λ n. drop n xs) here ∙ sym (drop-drop (mid - from) from xs))
    ∙ sym (take-add (mid - from) (to - mid) rest) ∙ sym (ap (λ n. take n rest) all)

-- the element that a function shows at an index
pub slice_get-shown : {X Y : Type 0} (show : X → Y) → ((x y : X) → show x ≡ show y → x ≡ y)
    → (xs : List X) (ys : List Y) (index : ℕ) (x : X) → map show xs ≡ ys → index < length xs
    → show x ≡ get_or ys index (show x) → slice_get xs index ≡ Some x
slice_get-shown show one xs ys index x shown within at =
    let seen = sym (get_or-map show xs index x (show x) within) in
    slice_get-get_or xs index x within
    ∙ ap (λ y. Some y) (one (get_or xs index x) x (seen ∙ ap (λ zs. get_or zs index (show x)) shown ∙ sym at))
