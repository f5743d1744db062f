-- Text that is appended piece by piece.
use Rattle.std.proofs.Common.{◌≡◌, ℕ, List, ◌++◌, sym, ap, ◌∙◌, append_assoc}

-- first two texts, then three
pub append_three : (before between after a b c d e : List ℕ) → between ≡ before ++ (a ++ b) → after ≡ between ++ (c ++ d ++ e)
    → after ≡ before ++ (a ++ b ++ c ++ d ++ e)
append_three before between after a b c d e first second =
    second ∙ ap (λ (l : List ℕ). l ++ (c ++ d ++ e)) first ∙ append_assoc before (a ++ b) (c ++ d ++ e)
    ∙ ap (λ (l : List ℕ). before ++ l)
    (sym (append_assoc (a ++ b) (c ++ d) e) ∙ ap (λ (l : List ℕ). l ++ e) (sym (append_assoc (a ++ b) c d)))
