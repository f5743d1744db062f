-- A proxy's share. This project's own.
use Rattle.std.specs.Prelude.{ℕ, ◌-◌}

-- the number of batches of those sent that aren't answered yet
abbrev pub unanswered : ℕ → ℕ → ℕ
unanswered sent answered = sent - answered
