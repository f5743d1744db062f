-- What is selected of two lists, in sequence.
use Rattle.std.specs.Prelude.{◌≡◌, Bool, if◌then◌else◌, List, [], ◌∷◌, ◌++◌, take, drop}
use Rattle.std.proofs.Common.{sym, ap, ◌∙◌, append_assoc, append-nil}
use Rattle.std.proofs.lemmas.List.{take-append-drop}
use Rattle.replay_summary.specs.Summary.{selected_items}

-- the item alone, or nothing
abbrev pub item_if : {X : Type 0} → Bool → X → List X
item_if passes x = if passes then x ∷ [] else []

module _ {X : Type 0} (test : List X → X → Bool) where
  pub selected-append : (before xs ys : List X)
      → selected_items test before (xs ++ ys) ≡ selected_items test before xs ++ selected_items test (before ++ xs) ys
  selected-append before [] ys = ap (λ (l : List X). selected_items test l ys) (sym (append-nil before))
  selected-append before (x ∷ xs) ys =
      ap (λ (l : List X). item_if (test before x) x ++ l) (selected-append (before ++ x ∷ []) xs ys)
      ∙ sym (append_assoc (item_if (test before x) x) (selected_items test (before ++ x ∷ []) xs) _)
      ∙ ap (λ (l : List X). selected_items test before (x ∷ xs) ++ selected_items test l ys) (append_assoc before (x ∷ []) xs)

  pub selected-more : (xs : List X) (x : X)
      → selected_items test [] (xs ++ x ∷ []) ≡ selected_items test [] xs ++ item_if (test xs x) x
  selected-more xs x =
      selected-append [] xs (x ∷ [])
      ∙ ap (λ (l : List X). selected_items test [] xs ++ l) (append-nil (item_if (test xs x) x))

  -- the first k are selected as if there were no others
  pub selected-split : (xs : List X) (k : _)
      → selected_items test [] xs ≡ selected_items test [] (take k xs) ++ selected_items test (take k xs) (drop k xs)
  selected-split xs k =
      ap (λ (l : List X). selected_items test [] l) (sym (take-append-drop k xs))
      ∙ selected-append [] (take k xs) (drop k xs)
