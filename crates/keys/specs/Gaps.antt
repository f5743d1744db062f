-- The gaps that runs hold. This project's own.
use Rattle.std.specs.Prelude.{ℕ, ◌<◌, ◌≤◌}

-- the run holds the gap
abbrev pub HasGap : ℕ × ℕ → ℕ → Type 0
HasGap run gap = (run.0 ≤ gap) × (gap < run.1)

-- the runs have a gap in common
abbrev pub HaveCommonGap : ℕ × ℕ → ℕ × ℕ → Type 0
HaveCommonGap a b = (gap : ℕ) × HasGap a gap × HasGap b gap
