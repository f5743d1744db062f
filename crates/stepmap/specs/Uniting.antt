-- Ranges that hold the same keys as others, apart from one another. This project's own.
use Rattle.std.specs.Prelude.{◌≡◌, ◌⊎◌, ℕ, ◌≤◌, ◌↔◌, List, length, All, Any}
use Rattle.keys.specs.Key.{IsBytes}
use Rattle.keys.specs.Range.{Holds, IsEmpty}
use Rattle.keys.specs.declared.range.Range.{Range}
use Rattle.stepmap.specs.Writing.{AreApart}
use Rattle.stepmap.specs.Counting.{filled_count}

-- the key is the begin or the end of some range that isn't empty
abbrev pub IsEndIn : List Range → List ℕ → Type 0
IsEndIn ranges key = Any (λ r. ¬ IsEmpty r × ((r.begin ≡ key) ⊎ (r.end ≡ key))) ranges

-- the united ranges hold what the ranges hold, each key once
pub record Unites (united ranges : List Range) : Type 0 where
  pub apart : AreApart united
  -- a key lies in some united range exactly if it lies in some range
  pub holds : (key : List ℕ) → IsBytes key → Any (λ u. Holds u key) united ↔ Any (λ r. Holds r key) ranges
  -- a united range begins and ends where some range that isn't empty begins or ends
  pub ends : All (λ u. IsEndIn ranges u.begin × IsEndIn ranges u.end) united
  -- there are no more of them than ranges that aren't empty
  pub few : length united ≤ filled_count ranges
