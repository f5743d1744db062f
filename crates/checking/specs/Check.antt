-- The text of a check of all proxies. This project's own.
use Rattle.std.specs.Prelude.{◌≡◌, ℕ, ◌+◌, ◌≤◌, ◌⊎◌, List, [], ◌∷◌, ◌++◌, codes, length, slice_index_or}
use Rattle.std.specs.Fmt.{decimal}
use Rattle.keyspace.specs.declared.reply.Reply.{Reply}
use Rattle.checking.specs.Difference.{differences}
use Rattle.checking.specs.Text.{difference_lines}

-- the lines of the differences of all proxies, whose numbers count from this one on
abbrev pub lines_from : ℕ → List (List Reply) → List (List Reply) → List ℕ
lines_from proxy (expected ∷ more) (recorded ∷ others) =
    difference_lines proxy (differences expected recorded) ++ lines_from (proxy + 1) more others
lines_from proxy _ _ = []

-- how many differences all proxies have
abbrev pub count_differences : List (List Reply) → List (List Reply) → ℕ
count_differences (expected ∷ more) (recorded ∷ others) =
    length (differences expected recorded) + count_differences more others
count_differences _ _ = 0

abbrev pub last_line : ℕ → ℕ → List ℕ
last_line batches found =
    codes "checked " ++ decimal batches ++ codes " batches, " ++ decimal found ++ codes " differences\n"

-- how many items the list at this place has
abbrev pub count_at : {X : Type 0} → List (List X) → ℕ → ℕ
count_at lists place = length (slice_index_or lists place [])

-- Memory is taken for the proxy of this number: a reply to it is expected or recorded, or it is the last one, after which the last line is
-- printed.
abbrev pub TakesMemory : List (List Reply) → List (List Reply) → ℕ → Type 0
TakesMemory expected recorded proxy =
    (1 ≤ count_at expected proxy) ⊎ ((1 ≤ count_at recorded proxy) ⊎ (proxy + 1 ≡ length expected))

-- the complete text
abbrev pub check_text : ℕ → List (List Reply) → List (List Reply) → List ℕ
check_text batches expected recorded =
    lines_from 0 expected recorded ++ last_line batches (count_differences expected recorded)
