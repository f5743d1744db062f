-- Shares in tenths of a percent. This project's own.
use Rattle.std.specs.Prelude.{ℕ, ◌+◌, ◌*◌, ◌<◌, ◌≤◌}

-- The share is within half a tenth of a percent of the part's, and up from the middle.
abbrev pub IsRoundedShare : ℕ → ℕ → ℕ → Type 0
IsRoundedShare part entire share =
    (2 * (entire * share) ≤ 2000 * part + entire) × (2000 * part + entire < 2 * (entire * share) + 2 * entire)
