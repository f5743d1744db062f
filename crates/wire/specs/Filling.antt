-- What several reads take from the bytes left.
use Rattle.std.specs.Prelude.{◌≡◌, ℕ, ◌<◌, List, ◌++◌, length, Option, IfSome}
use Rattle.std.specs.Io.KnownBytes.{Consumes}

-- the bytes that were taken were appended to those that were held
abbrev pub MovesInto : Option (List ℕ) → Option (List ℕ) → List ℕ → List ℕ → Type 0
MovesInto old new held all = (bytes : List ℕ) × (all ≡ held ++ bytes) × Consumes old new bytes

-- fewer than this many bytes were taken, if the reader still reports its bytes
abbrev pub TakesFewer : ℕ → Option (List ℕ) → Option (List ℕ) → Type 0
TakesFewer most old new = IfSome new (λ _. (bytes : List ℕ) × (length bytes < most) × Consumes old new bytes)
