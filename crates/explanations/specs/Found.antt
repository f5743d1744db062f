-- What a search has found so far.
use Rattle.std.specs.Prelude.{◌≡◌, ℕ, ◌-◌, ◌^◌, List, [], ◌∷◌, ◌++◌, length, min, Option, Some, None}
use Rattle.explanations.specs.declared.explanation.Explanation.{Explanation}
use Rattle.explanations.specs.Written.{Written}

-- what is said of the writes that explain a read range: the newest, and how many more there are, as far as the type counts
pub record IsExplained (ws : List Written) (most : ℕ) (newest : Written) (further : ℕ) : Type 0 where
  pub others : List Written
  pub last : ws ≡ others ++ newest ∷ []
  pub count : further ≡ min (length others) most

-- of these writes it is the newest, with the number of the others; of none it is nothing
abbrev pub IsFound : List Written → Option Explanation → Type 0
IsFound ws None = ws ≡ []
IsFound ws (Some e) = IsExplained ws (2 ^ 64 - 1) e.newest e.further
