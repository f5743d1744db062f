-- Items by their number, and slots by the number of their item.
use Rattle.std.proofs.Common.{◌≡◌, ◌≢◌, ℕ, zero, suc, ◌+◌, ◌%◌, ◌<◌, ◌≤◌, List, [], ◌∷◌, ◌++◌, length}
use Rattle.std.proofs.Common.{sym, refl, ap, ◌∙◌, ⊎_elim, arith, append_assoc}
use Rattle.std.specs.Prelude.{Option, Some, slice_get}
use Rattle.std.proofs.lemmas.Bool.{cases_lt}
use Rattle.std.proofs.lemmas.Option.{none-some, same_Some}
use Rattle.atomic_table.proofs.Lists.{one_turn}
use Rattle.lane.specs.Lane.{IsPrefix}

module _ {T : Type 0} where
  abbrev in_hand : Option T → List (ℕ × Option T) → Option T
  in_hand else_it [] = else_it
  in_hand else_it (x ∷ xs) = x.1

  pub item_there : (xs : List T) (k : ℕ) → k < length xs → (x : T) × (slice_get xs k ≡ Some x)
  item_there [] k h = absurd (omega arith)
  item_there (x ∷ xs) zero h = (x, refl)
  item_there (x ∷ xs) (suc k) h = item_there xs k (omega arith)

  pub item_last : (xs : List T) (x : T) → slice_get (xs ++ x ∷ []) (length xs) ≡ Some x
  item_last [] x = refl
  item_last (y ∷ ys) x = item_last ys x

  pub item_before : (xs : List T) (x : T) (k : ℕ) → k ≢ length xs → slice_get (xs ++ x ∷ []) k ≡ slice_get xs k
  item_before [] x zero n = absurd (n refl)
  item_before [] x (suc k) n = refl
  item_before (y ∷ ys) x zero n = refl
  item_before (y ∷ ys) x (suc k) n = item_before ys x k (λ e. n (ap suc e))

  -- what stands first of two lists that are one
  pub same_in_hand : (j k : ℕ) (x y : Option T) (xs ys : List (ℕ × Option T)) → (j, x) ∷ xs ≡ (k, y) ∷ ys → x ≡ y
  same_in_hand j k x y xs ys e = ap (in_hand x) e

  -- the item that follows a prefix
  item_after : (xs ys : List T) → slice_get (xs ++ ys) (length xs) ≡ slice_get ys 0
  item_after [] ys = refl
  item_after (x ∷ xs) ys = item_after xs ys

  after : (xs ys : List T) (x : T) → slice_get ys 0 ≡ Some x → IsPrefix (xs ++ x ∷ []) (xs ++ ys)
  after xs [] x e = absurd (none-some x e)
  after xs (y ∷ ys) x e =
      (ys, ap (λ z. xs ++ z ∷ ys) (same_Some y x e) ∙ sym (append_assoc xs (x ∷ []) ys))

  -- a prefix with the item that follows it
  pub continues : (xs ys : List T) (x : T) → IsPrefix xs ys → slice_get ys (length xs) ≡ Some x
      → IsPrefix (xs ++ x ∷ []) ys
  continues xs ys x is e =
      let next = after xs is.0 x (sym (item_after xs is.0) ∙ ap (λ l. slice_get l (length xs)) (sym is.1) ∙ e) in
      (next.0, is.1 ∙ next.1)

-- two numbers of one window with one slot are one number
pub one_slot : (from j k n : ℕ) → from ≤ j → j < from + n → from ≤ k → k < from + n → j % n ≡ k % n → j ≡ k
one_slot from j k n lj hj lk hk e = ⊎_elim
    (λ (lt : j < k). one_turn j k n (omega arith) (omega arith) e)
    (λ (le : k ≤ j). sym (one_turn k j n le (omega arith) (sym e)))
    (cases_lt j k)
