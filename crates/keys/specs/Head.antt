-- The first eight bytes of a key as one number: it distinguishes most keys. This project's own.
use Rattle.std.specs.Prelude.{ℕ, List, ◌++◌, take, replicate}
use Rattle.std.specs.Int.{w64, from_be_bytes}

-- the first eight bytes, filled up with zeros where there are fewer
abbrev pub first_eight : List ℕ → List ℕ
first_eight bytes = take 8 (bytes ++ replicate 8 0)

-- these as one number, the first byte the highest
unfoldable pub head_of : List ℕ → ℕ
head_of bytes = from_be_bytes w64 (first_eight bytes)
