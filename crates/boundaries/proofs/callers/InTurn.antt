-- Lists of which each element of one goes with the element of the other at the same place.
use Rattle.std.proofs.Common.{◌≡◌, ℕ, zero, suc, refl, ◌<◌, List, [], ◌∷◌, ◌++◌, length, get_or, arith}
use Rattle.std.specs.List.{All, AllZip}
use Rattle.std.proofs.lemmas.List.Elements.{All-nil, All-cons}

module _ {X Y : Type 0} (R : X → Y → Type 0) where
  pub AllZip-append : (xs us : List X) (ys vs : List Y) → AllZip R xs ys → AllZip R us vs → AllZip R (xs ++ us) (ys ++ vs)
  AllZip-append [] us [] vs all more = more
  AllZip-append [] us (y ∷ ys) vs all more = absurd all
  AllZip-append (x ∷ xs) us [] vs all more = absurd all
  AllZip-append (x ∷ xs) us (y ∷ ys) vs all more = (all.0, AllZip-append xs us ys vs all.1 more)

  -- what each one of the second list gets from its partner
  pub AllZip-second : (Q : Y → Type 0) → ((x : X) (y : Y) → R x y → Q y) → (xs : List X) (ys : List Y) → AllZip R xs ys
      → All Q ys
  AllZip-second Q gives [] [] all = All-nil Q
  AllZip-second Q gives [] (y ∷ ys) all = absurd all
  AllZip-second Q gives (x ∷ xs) [] all = absurd all
  AllZip-second Q gives (x ∷ xs) (y ∷ ys) all =
      All-cons Q y ys (gives x y all.0) (AllZip-second Q gives xs ys all.1)

  -- from one list to another, and from that to a third
  pub AllZip-through : {Z : Type 0} (S : Y → Z → Type 0) (T : X → Z → Type 0)
      → ((x : X) (y : Y) (z : Z) → R x y → S y z → T x z)
      → (xs : List X) (ys : List Y) (zs : List Z) → AllZip R xs ys → AllZip S ys zs → AllZip T xs zs
  AllZip-through S T gives [] [] [] all more = tt
  AllZip-through S T gives [] [] (z ∷ zs) all more = absurd more
  AllZip-through S T gives [] (y ∷ ys) zs all more = absurd all
  AllZip-through S T gives (x ∷ xs) [] zs all more = absurd all
  AllZip-through S T gives (x ∷ xs) (y ∷ ys) [] all more = absurd more
  AllZip-through S T gives (x ∷ xs) (y ∷ ys) (z ∷ zs) all more =
      (gives x y z all.0 more.0, AllZip-through S T gives xs ys zs all.1 more.1)

-- what stands at an index stands there whatever is given for a missing one
pub get_or_twice : {X : Type 0} (xs : List X) (i : ℕ) (d : X) → i < length xs → get_or xs i d ≡ get_or xs i (get_or xs i d)
get_or_twice [] i d inside = absurd (omega (arith, inside))
get_or_twice (x ∷ xs) zero d inside = refl
get_or_twice (x ∷ xs) (suc i) d inside = get_or_twice xs i d (omega (arith, inside))
