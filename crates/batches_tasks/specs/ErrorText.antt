-- The text on standard error.
use Rattle.std.specs.Prelude.{◌≡◌, ◌⊎◌, ℕ, ◌<◌, List, [], ◌∷◌, ◌++◌, Option}
use Rattle.std.specs.Io.KnownBytes.{Appends}
use Rattle.batches_tasks.specs.declared.progress.FileProgress.{FileProgress}

-- the length of the file whose progress is shown
abbrev pub progress_length : FileProgress → Option ℕ
progress_length progress = progress.length

-- the sink, between these bytes and these failures of it, was given some text, or it failed
abbrev pub ReportsText : Option (List ℕ) → Option (List ℕ) → ℕ → ℕ → Type 0
ReportsText before after failures_before failures_after =
    (failures_before < failures_after)
    ⊎ ((failures_after ≡ failures_before) × ((text : List ℕ) × Appends before after text))

-- the text ends with a line feed
abbrev pub IsLine : List ℕ → Type 0
IsLine text = (front : List ℕ) × (text ≡ front ++ 10 ∷ [])

-- the same, and the text ends a line
abbrev pub ReportsLine : Option (List ℕ) → Option (List ℕ) → ℕ → ℕ → Type 0
ReportsLine before after failures_before failures_after =
    (failures_before < failures_after)
    ⊎ ((failures_after ≡ failures_before) × ((line : List ℕ) × IsLine line × Appends before after line))
