-- Text in which a word that recurs, and a run of one word, takes one byte. This project's own.
use Rattle.std.specs.Prelude.{ℕ, ◌+◌, ◌-◌, ◌*◌, ◌/◌, ◌%◌, ◌<◌, ltb, ◌==◌, if◌then◌else◌, List, [], ◌∷◌, codes}
use Rattle.std.specs.List.{flat_map, repeat}
use Rattle.replay_output.specs.declared.line.packed.word.TheConstants.{FIRST_WORD, WORDS, MOST_IN_A_ROW}
use Rattle.replay_output.specs.declared.line.packed.word.Word.{Word}
use Rattle.replay_output.specs.declared.line.packed.word.Word.TheVariants.{Committed, TooOld, Conflict, CommittedJson, TooOldJson, ConflictJson, PlacesJson}

-- the text of a word, after its separator from the entry before
abbrev pub word_text : Word → List ℕ
word_text Committed = codes " committed"
word_text TooOld = codes " tooold"
word_text Conflict = codes " conflict"
word_text CommittedJson = codes ",\"committed\""
word_text TooOldJson = codes ",\"tooold\""
word_text ConflictJson = codes ",\"conflict\""
word_text PlacesJson = codes ",{\"conflict\":["

-- the word of this number
abbrev pub word_of_number : ℕ → Word
word_of_number number =
    if number == 0 then Committed
    else if number == 1 then TooOld
    else if number == 2 then Conflict
    else if number == 3 then CommittedJson
    else if number == 4 then TooOldJson
    else if number == 5 then ConflictJson
    else PlacesJson

-- it represents a letter, or a word at most MOST_IN_A_ROW times in a row
abbrev pub IsUnit : ℕ → Type 0
IsUnit unit = unit < FIRST_WORD + WORDS * MOST_IN_A_ROW

-- the word that a unit represents
abbrev pub word_of : ℕ → Word
word_of unit = word_of_number ((unit - FIRST_WORD) % WORDS)

-- how many times in a row it repeats that word
abbrev pub times_of : ℕ → ℕ
times_of unit = (unit - FIRST_WORD) / WORDS + 1

-- the text of a unit: below the first word that letter alone, and from there on its word, repeated
abbrev pub text_of_unit : ℕ → List ℕ
text_of_unit unit = if ltb unit FIRST_WORD then unit ∷ [] else repeat (times_of unit) (word_text (word_of unit))

-- the text of units in their order
abbrev pub text_of_units : List ℕ → List ℕ
text_of_units units = flat_map text_of_unit units
