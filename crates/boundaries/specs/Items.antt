-- Runs of items, and what a sweep leaves of them. This project's own.
use Rattle.std.specs.Prelude.{◌≡◌, ℤ, int_lt, Bool, ◌&&◌, if◌then◌else◌, List, [], ◌∷◌, ◌++◌}
use Rattle.boundaries.specs.Item.{Item}

-- the last of a list
abbrev pub IsLast : {X : Type 0} → X → List X → Type 0
IsLast {X} x xs = (before : List X) × (xs ≡ before ++ x ∷ [])

-- an item that ends a run, unless the run is ended already
abbrev pub ended_by : Bool → Item → List Item
ended_by ended item = if ended then [] else item ∷ []

-- The items that stay of a run. One goes if its version and its predecessor's are below the edge.
abbrev pub unexpired_items : ℤ → ℤ → List Item → List Item
unexpired_items edge before [] = []
unexpired_items edge before (x ∷ xs) =
    if int_lt before edge && int_lt x.version edge then unexpired_items edge x.version xs else x ∷ unexpired_items edge x.version xs

-- those that go, in order
abbrev pub expired_items : ℤ → ℤ → List Item → List Item
expired_items edge before [] = []
expired_items edge before (x ∷ xs) =
    if int_lt before edge && int_lt x.version edge then x ∷ expired_items edge x.version xs else expired_items edge x.version xs
