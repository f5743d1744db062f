-- Keys and their order. Source: the order of `StringRef`, FoundationDB 7.1, byte by byte, a proper prefix first. That a key
-- of a range may have 10,001 bytes is this project's own.
use Rattle.std.specs.Prelude.{ℕ, ◌<◌, ◌≤◌, List, length, Bool, not, IsTrue, All}
use Rattle.std.specs.Ordering.{nat_cmp, is_lt}
use Rattle.std.specs.Cmp.Lexicographic.{slice_cmp}
use Rattle.keys.specs.declared.key.TheConstants.{MAX_KEY_LENGTH}

-- each element is a byte
abbrev pub IsBytes : List ℕ → Type 0
IsBytes key = All (λ byte. byte < 256) key

-- A byte string that a range may begin or end with: at most a byte longer than the longest key of the database.
pub record IsKey (key : List ℕ) : Type 0 where
  pub bytes : IsBytes key
  pub short : length key ≤ MAX_KEY_LENGTH

-- whether a comes before b: byte by byte, and a proper prefix comes first
abbrev pub is_before : List ℕ → List ℕ → Bool
is_before a b = is_lt (slice_cmp nat_cmp a b)

abbrev pub IsBefore : List ℕ → List ℕ → Type 0
IsBefore a b = IsTrue (is_before a b)

-- a comes before b, or is b
abbrev pub IsAtMost : List ℕ → List ℕ → Type 0
IsAtMost a b = IsTrue (not (is_before b a))
