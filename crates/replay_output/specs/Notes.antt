-- Notes under lines, and members in lines that are objects. This project's own.
use Rattle.std.specs.Prelude.{ℕ, ◌-◌, List, [], ◌∷◌, ◌++◌, codes, length, take}

-- a line, and under it a note; a line that isn't shown is empty, and has no note
abbrev pub with_note : List ℕ → List ℕ → List ℕ
with_note [] note = []
with_note (letter ∷ text) note = letter ∷ text ++ note

-- a line that is an object, and in it one more member before its end; an empty member changes nothing, and a line that isn't shown is
-- empty, and has none
abbrev pub with_member : List ℕ → List ℕ → List ℕ
with_member [] member = []
with_member (letter ∷ text) [] = letter ∷ text
with_member (letter ∷ text) (first ∷ member) =
    take (length text - 1) (letter ∷ text) ++ codes "," ++ (first ∷ member) ++ codes "}\n"
