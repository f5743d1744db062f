-- Lists of which each element of one goes with the element of the other at the same place.
use Rattle.std.proofs.Common.{◌≡◌, ℕ, map, ◌+◌, ◌<◌, ◌≤◌, List, [], ◌∷◌, ◌++◌, length, get_or, take, refl}
use Rattle.keys.proofs.callers.Lists.{AllZip-at as zip_at}
use Rattle.std.proofs.lemmas.Option.{slice_get_read}
use Rattle.std.specs.List.{AllZip}
use Rattle.std.proofs.lemmas.List.{map-append, take_all, take_more}
use Rattle.std.proofs.lemmas.Slice.Zip.{all_zipped_more}

-- one element more is made of another list, where the lists are so long after it
pub map-turn : {X Y : Type 0} (f : X → Y) (xs zs : List X) (ys : List Y) (i n : ℕ) (x : X) → i < length ys
    → f x ≡ get_or ys i (f x) → n ≡ i + 1 → zs ≡ xs ++ x ∷ [] → map f xs ≡ take i ys → map f zs ≡ take n ys
map-turn f xs zs ys i n x inside is more pushed made =
    rw (more, pushed, take_more ys i (f x) inside, map-append f xs (x ∷ []), made, ← is) refl

module _ {X Y : Type 0} (R : X → Y → Type 0) where
  pub AllZip-at : (xs : List X) (ys : List Y) (i : ℕ) (x : X) (y : Y) → i < length xs → x ≡ get_or xs i x → y ≡ get_or ys i y
      → AllZip R xs ys → R x y
  AllZip-at xs ys i x y inside is at all = rw at (zip_at R xs ys i x y (slice_get_read xs (length xs) i x refl inside is) all)

  -- one element more is gone through, where the lists are so long after it
  pub AllZip-turn : (xs : List X) (i n : ℕ) (ys zs : List Y) (x : X) (y : Y) → i < length xs → x ≡ get_or xs i x → n ≡ i + 1
      → zs ≡ ys ++ y ∷ [] → AllZip R (take i xs) ys → R x y → AllZip R (take n xs) zs
  AllZip-turn xs i n ys zs x y inside is more pushed all it =
      rw (more, pushed, take_more xs i x inside, ← is) (all_zipped_more R (take i xs) ys x y all it)

  -- all are gone through
  pub AllZip-entire : (xs : List X) (n : ℕ) (ys : List Y) → length xs ≤ n → AllZip R (take n xs) ys → AllZip R xs ys
  AllZip-entire xs n ys most = rw (take_all n xs most) (λ all. all)

  -- a weaker relation to what the second elements are made of
  pub AllZip-through : {Z : Type 0} (S : X → Z → Type 0) (f : Z → Y) → ((x : X) (z : Z) → R x (f z) → S x z) → (xs : List X)
      (zs : List Z) → AllZip R xs (map f zs) → AllZip S xs zs
  AllZip-through S f so [] [] all = all
  AllZip-through S f so [] (z ∷ zs) all = absurd all
  AllZip-through S f so (x ∷ xs) [] all = absurd all
  AllZip-through S f so (x ∷ xs) (z ∷ zs) all = (so x z all.0, AllZip-through S f so xs zs all.1)
