-- That no file is both read and written, by the matches of a command line.
use Rattle.std.specs.Prelude.{◌≡◌, ℕ, Bool, false, not, ◌&&◌, ◌||◌, List, [], codes, Option, None, Some}
use Rattle.std.specs.List.{list_any}
use Rattle.std.specs.Str.{bytes_eq}
use Rattle.clap.specs.Words.{Row, all_of, first_of}

-- the name of standard input, which is read instead of a file
abbrev pub standard_input : List ℕ
standard_input = codes "-"

-- the names that are given, or none
abbrev pub given_names : Option (List (List ℕ)) → List (List ℕ)
given_names None = []
given_names (Some names) = names

-- whether this is one of the names
abbrev pub is_among : List ℕ → List (List ℕ) → Bool
is_among name names = list_any (λ other. bytes_eq other name) names

-- whether this is the other name, if that is given
abbrev pub is_name : List ℕ → Option (List ℕ) → Bool
is_name name None = false
is_name name (Some other) = bytes_eq other name

-- whether a file of this name is read: it is one of these files of batches or of replies, or that of split points, and `-` is none
abbrev pub is_read : List (List ℕ) → List (List ℕ) → Option (List ℕ) → List ℕ → Bool
is_read files replies points name =
    not (bytes_eq name standard_input) && (is_among name files || (is_among name replies || is_name name points))

-- the same for an optional name
abbrev pub is_read_if_any : List (List ℕ) → List (List ℕ) → Option (List ℕ) → Option (List ℕ) → Bool
is_read_if_any files replies points None = false
is_read_if_any files replies points (Some name) = is_read files replies points name

-- whether the output, the summary or a record is written to a file of batches, a file of replies or the file of split points
abbrev pub writes_input : List (List ℕ) → List (List ℕ) → Option (List ℕ) → Option (List ℕ) → Option (List ℕ) → List (List ℕ) → Bool
writes_input files replies points output summary records =
    is_read_if_any files replies points output
    || (is_read_if_any files replies points summary || list_any (is_read files replies points) records)

-- the same for the names that are found
abbrev pub has_written_input : List Row → Bool
has_written_input rows =
    writes_input (given_names (all_of (codes "FILE") rows)) (given_names (all_of (codes "check") rows)) (first_of (codes "split-points") rows)
    (first_of (codes "output") rows) (first_of (codes "summary-to") rows) (given_names (all_of (codes "replies") rows))

-- no file that is written is one that is read
abbrev pub KeepsInputs : List Row → Type 0
KeepsInputs rows = has_written_input rows ≡ false
