-- Lemmas for callers: what is at an index of a list, and lists that agree item by item.
use Rattle.std.proofs.Common.{◌≡◌, ℕ, zero, suc, List, [], ◌∷◌, ◌++◌, length, refl, ap, subst, ◌∙◌, arith}
use Rattle.std.specs.Prelude.{Bool, true, false, ◌&&◌, Some, map, slice_get}
use Rattle.std.specs.Option.{option_map}
use Rattle.std.specs.List.{All, AllZip}
use Rattle.std.proofs.lemmas.Bool.{false≢true}
use Rattle.std.proofs.lemmas.Option.{none-some, slice_get_within, slice_get-map, get_or_from_slice_get}

-- a list of the same length has an item at the same place
pub found : {X Y : Type 0} (xs : List X) (ys : List Y) (place : ℕ) (x : X) → length ys ≡ length xs
    → slice_get xs place ≡ Some x → (y : Y) × (slice_get ys place ≡ Some y)
found [] ys place x same at = absurd (none-some x at)
found (first ∷ xs) [] place x same at = absurd (omega (arith, same))
found (first ∷ xs) (y ∷ ys) zero x same at = (y, refl)
found (first ∷ xs) (y ∷ ys) (suc place) x same at = found xs ys place x (omega (arith, same)) at

-- what holds of all items holds of the one at this place
pub all_at : {X : Type 0} (P : X → Type 0) (xs : List X) (place : ℕ) (x : X) → All P xs → slice_get xs place ≡ Some x
    → P x
all_at P xs place x all at =
    subst P (get_or_from_slice_get xs place x x at) (all place x (slice_get_within xs place x at))

pub AllZip-also : {X Y : Type 0} (R : X → Y → Type 0) (xs : List X) (ys : List Y) (x : X) (y : Y) → AllZip R xs ys → R x y
    → AllZip R (xs ++ x ∷ []) (ys ++ y ∷ [])
AllZip-also R [] [] x y all it = (it, tt)
AllZip-also R [] (first ∷ ys) x y all it = absurd all
AllZip-also R (first ∷ xs) [] x y all it = absurd all
AllZip-also R (first ∷ xs) (other ∷ ys) x y all it = (all.0, AllZip-also R xs ys x y all.1 it)

pub both : (a b : Bool) → (a && b) ≡ true → (a ≡ true) × (b ≡ true)
both true b is = (refl, is)
both false b is = absurd (false≢true is)

pub mapped_at : {X Y : Type 0} (f : X → Y) (xs : List X) (place : ℕ) (x : X) → slice_get xs place ≡ Some x
    → slice_get (map f xs) place ≡ Some (f x)
mapped_at f xs place x at = slice_get-map f xs place ∙ ap (option_map f) at

pub at_also : {X : Type 0} (xs : List X) (place : ℕ) (x y : X) → slice_get xs place ≡ Some x
    → slice_get (xs ++ y ∷ []) place ≡ Some x
at_also [] place x y at = absurd (none-some x at)
at_also (first ∷ xs) zero x y at = at
at_also (first ∷ xs) (suc place) x y at = at_also xs place x y at

pub at_last : {X : Type 0} (xs : List X) (y : X) → slice_get (xs ++ y ∷ []) (length xs) ≡ Some y
at_last [] y = refl
at_last (x ∷ xs) y = at_last xs y
