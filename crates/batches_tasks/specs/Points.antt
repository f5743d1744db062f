-- Split points as lines: each is a key in its printed form.
use Rattle.std.specs.Prelude.{◌≡◌, ℕ, List, [], ◌∷◌, ◌++◌, flat_map, Option, Some, IfSome}
use Rattle.std.specs.Io.BufRead.{take_through, drop_through}
use Rattle.json_lines.specs.KeyForm.{key_form}
use Rattle.json_lines.specs.Ranges.{IsKeyLine}

abbrev pub point_line : List ℕ → List ℕ
point_line key = key_form key ++ 10 ∷ []

-- the lines that are written
abbrev pub point_lines : List (List ℕ) → List ℕ
point_lines keys = flat_map point_line keys

-- the bytes are lines that spell these keys, in sequence
abbrev pub ArePointLines : List ℕ → List (List ℕ) → Type 0
ArePointLines bytes [] = bytes ≡ []
ArePointLines bytes (key ∷ keys) =
    (rest : List ℕ) × (bytes ≡ take_through 10 bytes ++ rest) × IsKeyLine (take_through 10 bytes) key
    × ArePointLines rest keys

-- the first line spells the key, and just that line leaves
abbrev pub TakesPoint : Option (List ℕ) → Option (List ℕ) → List ℕ → Type 0
TakesPoint old new key = IfSome old (λ bytes. IsKeyLine (take_through 10 bytes) key × (new ≡ Some (drop_through 10 bytes)))
