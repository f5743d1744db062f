-- Order by version. This project's own.
use Rattle.std.specs.Prelude.{◌≡◌, ℤ, false, int_lt, if◌then◌else◌, List, [], ◌∷◌, fold, ⊤}

-- an item put after those of its version and of lesser ones
abbrev pub put_in_order : {X : Type 0} → (X → ℤ) → List X → X → List X
put_in_order version [] item = item ∷ []
put_in_order version (first ∷ rest) item =
    if int_lt (version item) (version first) then item ∷ first ∷ rest else first ∷ put_in_order version rest item

-- by version, and those of one version in their former order
abbrev pub in_order_by : {X : Type 0} → (X → ℤ) → List X → List X
in_order_by version items = fold (put_in_order version) [] items

-- none has a lesser version than this
abbrev pub NoneBefore : {X : Type 0} → (X → ℤ) → ℤ → List X → Type 0
NoneBefore version least [] = ⊤
NoneBefore version least (first ∷ rest) = (int_lt (version first) least ≡ false) × NoneBefore version least rest

-- none has a lesser version than one before it
abbrev pub Rise : {X : Type 0} → (X → ℤ) → List X → Type 0
Rise version [] = ⊤
Rise version (first ∷ rest) = NoneBefore version (version first) rest × Rise version rest
