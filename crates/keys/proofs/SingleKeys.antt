-- The range of a single key ends right after that key, so no other begin lies in it.
use Rattle.std.proofs.Common.{◌≡◌, ℕ, zero, suc, ◌+◌, ◌<◌, false, not, List, [], ◌∷◌, ◌++◌, length, get_or, refl, sym, ap, subst, ◌∙◌, inl, inr, arith}
use Rattle.std.specs.Prelude.{Contains}
use Rattle.std.proofs.lemmas.Bool.{cases_order}
use Rattle.keys.specs.Key.{is_before, IsBefore}
use Rattle.keys.specs.GapRuns.{rank, AreRising}
use Rattle.keys.proofs.callers.KeyHeads.{before_by_first, after_by_first, before_after_first}
use Rattle.keys.proofs.callers.KeyOrder.{before_at_most_same, not_before_if, not_before_itself}
use Rattle.keys.proofs.Ranking.{rank_cons, rank_same}

none_before_empty : (key : List ℕ) → is_before key [] ≡ false
none_before_empty [] = refl
none_before_empty (x ∷ key) = refl

-- the keys before the one right after a key are those that don't come after the key
pub before_next : (key single : List ℕ) → is_before key (single ++ 0 ∷ []) ≡ not (is_before single key)
before_next [] [] = refl
before_next [] (y ∷ single) = refl
before_next (x ∷ key) [] = elim (cases_order x 0) [
  | inl e ↦ subst (λ z. is_before (z ∷ key) (0 ∷ []) ≡ false) (sym e)
      (before_after_first 0 key [] ∙ none_before_empty key)
  | inr apart ↦ elim apart [
    | inl below ↦ absurd (omega arith)
    | inr above ↦ after_by_first x 0 key [] above
  ]
]
before_next (x ∷ key) (y ∷ single) = elim (cases_order x y) [
  | inl e ↦ subst (λ z. is_before (x ∷ key) (z ∷ single ++ 0 ∷ []) ≡ not (is_before (z ∷ single) (x ∷ key))) e
      (before_after_first x key (single ++ 0 ∷ []) ∙ (before_next key single
      ∙ ap not (sym (before_after_first x single key))))
  | inr apart ↦ elim apart [
    | inl below ↦ before_by_first x y key (single ++ 0 ∷ []) below ∙ ap not (sym (after_by_first y x single key below))
    | inr above ↦ after_by_first x y key (single ++ 0 ∷ []) above ∙ ap not (sym (before_by_first y x single key above))
  ]
]

-- no key after the single one comes before its end, and each one before it does
after_single : (key single : List ℕ) → IsBefore single key → is_before key (single ++ 0 ∷ []) ≡ is_before key single
after_single key single after =
    before_next key single ∙ (ap not after
    ∙ sym (not_before_if single key (before_at_most_same single key after)))

before_single : (key single : List ℕ) → IsBefore key single → IsBefore key (single ++ 0 ∷ [])
before_single key single before =
    before_next key single ∙ ap not (not_before_if key single (before_at_most_same key single before))

-- after a key the rank is one more
rank_after_at : (keys : List (List ℕ)) (key : List ℕ) (i : ℕ) → AreRising keys → i < length keys
    → get_or keys i key ≡ key → rank keys (key ++ 0 ∷ []) ≡ rank keys key + 1
rank_after_at [] key i rising within is = absurd (omega arith)
rank_after_at (x ∷ keys) key zero rising within is =
    let first : is_before x (key ++ 0 ∷ []) ≡ not (is_before key key) =
    before_next x key ∙ ap (λ (k : List ℕ). not (is_before key k)) is in
    let itself = not_before_itself key in
    let same = rank_same keys (key ++ 0 ∷ []) key (λ k d lt.
    after_single (get_or keys k d) key (subst (λ (y : List ℕ). IsBefore y (get_or keys k d)) is
    (rising 0 (suc k) d (omega arith) (omega arith)))) in
    rw (rank_cons x keys (key ++ 0 ∷ []), rank_cons x keys key, first, is, itself, same) (omega arith)
rank_after_at (x ∷ keys) key (suc i) rising within is =
    let before : IsBefore x key = subst (IsBefore x) is (rising 0 (suc i) key (omega arith) within) in
    let later = before_single x key before in
    let rest = rank_after_at keys key i (λ p q d lt le. rising (suc p) (suc q) d (omega arith) (omega arith)) (omega arith) is in
    rw (rank_cons x keys (key ++ 0 ∷ []), rank_cons x keys key, before, later, rest) (omega arith)

pub rank_after_key : (keys : List (List ℕ)) (key : List ℕ) → AreRising keys → Contains keys key
    → rank keys (key ++ 0 ∷ []) ≡ rank keys key + 1
rank_after_key keys key rising (i, within, is) = rank_after_at keys key i rising within is
