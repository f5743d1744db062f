-- The indices from one number on, and texts that are put together of a line for each.
use Rattle.std.proofs.Common.{◌≡◌, ℕ, zero, suc, ◌+◌, ◌<◌, List, [], ◌∷◌, ◌++◌, Some, slice_get, sym, ap, ◌∙◌, arith, append_assoc, append-nil}
use Rattle.std.specs.List.{flat_map}
use Rattle.std.proofs.lemmas.Grind.{flat_map-append}
use Rattle.replay_explanations.specs.Lines.{indices_from}

-- one more index
indices_next : (first n : ℕ) → indices_from first (suc n) ≡ indices_from first n ++ (first + n) ∷ []
indices_next first zero =
    let same : first ≡ first + zero = omega arith in
    ap (λ (k : ℕ). k ∷ []) same
indices_next first (suc n) =
    let same : (first + 1) + n ≡ first + suc n = omega arith in
    ap (λ (ks : List ℕ). first ∷ ks)
    (indices_next (first + 1) n ∙ ap (λ (k : ℕ). indices_from (first + 1) n ++ k ∷ []) same)

-- the index at an index
pub index_at : (n first k m : ℕ) → k < n → m ≡ first + k → slice_get (indices_from first n) k ≡ Some m
index_at zero first k m within same = absurd (omega (arith, within))
index_at (suc n) first zero m within same =
    let here : first ≡ m = omega arith in
    ap (λ (i : ℕ). Some i) here
index_at (suc n) first (suc k) m within same = index_at n (first + 1) k m (omega arith) (omega arith)

-- a text with the line of one more index
pub text_next : (line : ℕ → List ℕ) (n : ℕ) (start now next : List ℕ) → now ≡ start ++ flat_map line (indices_from 0 n)
    → next ≡ now ++ line n → next ≡ start ++ flat_map line (indices_from 0 (n + 1))
text_next line n start now next before more =
    let one : n + 1 ≡ suc n = omega arith in
    let own : 0 + n ≡ n = omega arith in
    let lines = flat_map line (indices_from 0 n) in
    more ∙ ap (λ (xs : List ℕ). xs ++ line n) before ∙ append_assoc start lines (line n)
    ∙ ap (λ (xs : List ℕ). start ++ xs)
    (ap (λ (xs : List ℕ). lines ++ xs) (sym (append-nil (line n)))
    ∙ ap (λ (k : ℕ). lines ++ (line k ++ [])) (sym own)
    ∙ sym (flat_map-append line (indices_from 0 n) ((0 + n) ∷ []))
    ∙ ap (flat_map line) (sym (indices_next 0 n))
    ∙ ap (λ (k : ℕ). flat_map line (indices_from 0 k)) (sym one))
