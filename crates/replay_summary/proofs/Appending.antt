-- Text that is appended piece by piece.
use Rattle.std.specs.Prelude.{◌≡◌, ℕ, List, ◌++◌}
use Rattle.std.proofs.Common.{refl, ap, ◌∙◌, append_assoc}

-- first one text, then another
pub append_then : (before between after x y : List ℕ) → between ≡ before ++ x → after ≡ between ++ y → after ≡ before ++ (x ++ y)
append_then before between after x y first second =
    second ∙ ap (λ (l : List ℕ). l ++ y) first ∙ append_assoc before x y

-- first a text, then a name and a number
pub append_number : (before between after x name number : List ℕ) → between ≡ before ++ x → after ≡ between ++ name ++ number
    → after ≡ before ++ (x ++ name ++ number)
append_number before between after x name number first second =
    append_then before _ after (x ++ name) number (append_then before between _ x name first refl) second
