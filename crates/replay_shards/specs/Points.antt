-- Split points as lines of a file: each is a key in its printed form. This project's own.
use Rattle.std.specs.Prelude.{◌≡◌, ℕ, ◌<◌, List, [], ◌∷◌, ◌++◌, length}
use Rattle.std.specs.Io.BufRead.{take_through}
use Rattle.json_lines.specs.Ranges.{IsKeyLine}

-- the bytes are lines that spell these keys, in sequence
abbrev pub ArePointLines : List ℕ → List (List ℕ) → Type 0
ArePointLines bytes [] = bytes ≡ []
ArePointLines bytes (key ∷ keys) =
    (rest : List ℕ) × (0 < length bytes) × (bytes ≡ take_through 10 bytes ++ rest) × IsKeyLine (take_through 10 bytes) key
    × ArePointLines rest keys
