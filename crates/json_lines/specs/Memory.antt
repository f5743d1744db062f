-- Which lines take memory before they are known to be JSON.
use Rattle.std.specs.Prelude.{◌⊎◌, ℕ, ◌<◌, List, length, IsTrue}
use Rattle.json.specs.Lex.{tokens}
use Rattle.json.specs.Reads.{opens}

-- the line opens an array or an object, or the scratch has less room than the line has bytes
abbrev pub TakesMemory : List ℕ → ℕ → Type 0
TakesMemory line room = IsTrue (opens (tokens line)) ⊎ (room < length line)
