-- Ranges of keys, and when two of them meet. Source: the half-open key ranges of `KeyRangeRef`, FoundationDB 7.1.
use Rattle.std.specs.Prelude.{◌≡◌, ◌&&◌, ℕ, Bool, List, [], ◌∷◌, ◌++◌}
use Rattle.std.specs.Str.{bytes_eq}
use Rattle.keys.specs.Key.{IsBytes, is_before, IsBefore, IsAtMost}
use Rattle.keys.specs.declared.range.Range.{Range}

-- begin equals end, so no key lies in the range
abbrev pub IsEmpty : Range → Type 0
IsEmpty range = range.begin ≡ range.end

-- the range holds its begin alone: it ends with the key right after that
abbrev pub IsSingle : Range → Type 0
IsSingle range = range.end ≡ range.begin ++ 0 ∷ []

-- true if the end is the begin with a zero byte after it
abbrev pub is_single_key : List ℕ → List ℕ → Bool
is_single_key begin end = bytes_eq end (begin ++ 0 ∷ [])

-- the half-open range holds the keys from its begin on, below its end
abbrev pub Holds : Range → List ℕ → Type 0
Holds range key = IsAtMost range.begin key × IsBefore key range.end

-- the ranges overlap: both hold some key
abbrev pub Meets : Range → Range → Type 0
Meets a b = (key : List ℕ) × IsBytes key × Holds a key × Holds b key

-- what code can compute of it: neither range is empty, and each begins before the other ends
abbrev pub ranges_meet : Range → Range → Bool
ranges_meet a b =
    is_before a.begin a.end && is_before b.begin b.end && is_before a.begin b.end && is_before b.begin a.end

-- the same of a range that isn't empty: it begins before it ends
abbrev pub is_filled : Range → Bool
is_filled range = is_before range.begin range.end
