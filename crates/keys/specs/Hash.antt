-- A number made of a key, by which a filter finds its cell. This project's own.
use Rattle.std.specs.Prelude.{◌≡◌, ◌⊎◌, ℕ, MatchOption, Option, ◌+◌, ◌-◌, ◌*◌, ◌/◌, ◌%◌, ◌^◌, List, [], ◌∷◌, length, drop, fold, All}
use Rattle.std.specs.List.{AllZip}
use Rattle.keys.specs.Head.{head_of}
use Rattle.keys.specs.Range.{IsSingle}
use Rattle.keys.specs.declared.key_hashes.TheConstants.{FACTOR}
use Rattle.keys.specs.declared.range.Range.{Range}

-- a word of eight bytes is mixed in
abbrev pub mixed_hash : ℕ → ℕ → ℕ
mixed_hash hash word = ((hash * FACTOR) % 2 ^ 64 + word) % 2 ^ 64

-- the index at which the last eight bytes of a key begin, or 0 if it has fewer
abbrev pub last_eight : List ℕ → ℕ
last_eight key = length key - 8

-- the indices of the words that are mixed in: first, last and middle, and halfway between these
abbrev pub places_of : List ℕ → List ℕ
places_of key =
    let last = last_eight key in
    0 ∷ (last / 4) ∷ (last / 2) ∷ (last - last / 4) ∷ last ∷ []

-- the words at these places, mixed into the length
unfoldable pub mixture_of : List ℕ → ℕ
mixture_of key =
    (fold (λ hash place. mixed_hash hash (head_of (drop place key))) (length key) (places_of key) * FACTOR) % 2 ^ 64

-- the high half of that, in which keys differ that differ in a few bytes
abbrev pub hash_of : List ℕ → ℕ
hash_of key = mixture_of key / 2 ^ 32

-- the hash of the key that a range holds alone, or none if it holds none or several
abbrev pub IsHashOf : Range → Option ℕ → Type 0
IsHashOf range found = MatchOption found (¬ IsSingle range) (λ hash. IsSingle range × (hash ≡ hash_of range.begin))

-- one for each range, the hash of the key that it holds alone; or none at all, if no range holds a key alone
abbrev pub AreHashesOf : List Range → List (Option ℕ) → Type 0
AreHashesOf ranges hashes = ((hashes ≡ []) × All (λ range. ¬ IsSingle range) ranges) ⊎ AllZip IsHashOf ranges hashes
