-- What holds of all keys and ranges.
use Rattle.std.specs.Prelude.{◌≡◌, ℕ, ◌<◌, ◌≤◌, ◌↔◌, List, length, take, drop, slice_index}
use Rattle.keys.specs.declared.range.Range.{Range}
use Rattle.keys.specs.Key.{IsBytes, is_before, IsBefore, IsAtMost}
use Rattle.keys.specs.Head.{first_eight, head_of}
use Rattle.keys.specs.Range.{IsEmpty, Meets}
use Rattle.keys.specs.GapRuns.{run, HaveBegin}
use Rattle.keys.specs.Gaps.{HasGap, HaveCommonGap}

-- heads are in the order of the keys, as far as they reach
pub record KeyHeadsDetermine (a b : List ℕ) : Type 0 where
  -- the key with the lesser head comes first
  pub less : head_of a < head_of b → IsBefore a b
  pub at_most : IsAtMost a b → head_of a ≤ head_of b
  -- if the heads are the same, so are the first eight bytes, with zeros for missing ones
  pub same : head_of a ≡ head_of b → first_eight a ≡ first_eight b
  pub same_long : head_of a ≡ head_of b → 8 ≤ length a → 8 ≤ length b → take 8 a ≡ take 8 b

abbrev pub KeyHeadsDetermineOrder : Type 0
KeyHeadsDetermineOrder = (a b : List ℕ) → IsBytes a → IsBytes b → KeyHeadsDetermine a b

-- two keys have a common prefix of this length
pub record SharePrefix (n : ℕ) (a b : List ℕ) : Type 0 where
  pub in_first : n ≤ length a
  pub in_second : n ≤ length b
  pub same : take n a ≡ take n b

-- keys with a common prefix are in the order of the bytes after it
pub record RestsDetermine (n : ℕ) (a b : List ℕ) : Type 0 where
  pub rests : is_before a b ≡ is_before (drop n a) (drop n b)
  -- the one that ends there comes first
  pub shorter : length a ≡ n → n < length b → IsBefore a b
  -- so does the one with the lesser next byte
  pub differing : n < length a → n < length b → slice_index a n < slice_index b n → IsBefore a b

abbrev pub RestsDetermineOrder : Type 0
RestsDetermineOrder = (n : ℕ) (a b : List ℕ) → SharePrefix n a b → RestsDetermine n a b

-- two ranges overlap exactly if neither is empty and each begins before the other ends
abbrev pub MeetByEnds : Range → Range → Type 0
MeetByEnds a b = Meets a b ↔ (¬ IsEmpty a × ¬ IsEmpty b × IsBefore a.begin b.end × IsBefore b.begin a.end)

-- among the keys that have their begins, two ranges overlap exactly if their runs have a gap in common
abbrev pub RunsDetermineMeeting : Type 0
RunsDetermineMeeting =
    (keys : List (List ℕ)) (a b : Range) → HaveBegin keys a → HaveBegin keys b →
    Meets a b ↔ HaveCommonGap (run keys a) (run keys b)

-- the run of an empty range holds no gap
abbrev pub EmptyHasNoGap : Type 0
EmptyHasNoGap =
    (keys : List (List ℕ)) (range : Range) (gap : ℕ) → IsEmpty range → ¬ HasGap (run keys range) gap

-- a run isn't backwards, and ends at the number of the keys at the latest
abbrev pub RunsAreWithin : Type 0
RunsAreWithin =
    (keys : List (List ℕ)) (range : Range) →
    ((run keys range).0 ≤ (run keys range).1) × ((run keys range).1 ≤ length keys)
