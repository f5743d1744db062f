-- Explanations as a member of a JSON object. This project's own. A range is the pair of its begin and end keys.
use Rattle.std.specs.Prelude.{ℕ, ◌==◌, ◌||◌, ℤ, if◌then◌else◌, List, [], ◌∷◌, ◌++◌, codes, flat_map, Option, None, Some}
use Rattle.std.specs.Fmt.{decimal, signed_decimal}
use Rattle.std.specs.Ordering.{int_eq}
use Rattle.keys.specs.declared.range.Range.{Range}
use Rattle.explanations.specs.Written.{Written}
use Rattle.json_lines.specs.KeyForm.{byte_form}

-- a character of printable ASCII within a string: quotes and backslashes have a backslash before them
abbrev pub escaped_character : ℕ → List ℕ
escaped_character character = if (character == 34) || (character == 92) then 92 ∷ character ∷ [] else character ∷ []

-- the printed form of a byte, within a string
abbrev pub byte_json : ℕ → List ℕ
byte_json byte = flat_map escaped_character (byte_form byte)

-- a key in its printed form, as a string
abbrev pub key_json : List ℕ → List ℕ
key_json key = codes "\"" ++ flat_map byte_json key ++ codes "\""

-- a range: its begin, and its end, which is not included
abbrev pub range_json : Range → List ℕ
range_json range = codes "[" ++ key_json range.begin ++ codes "," ++ key_json range.end ++ codes "]"

-- the transaction that wrote it
abbrev pub source_json : Written → List ℕ
source_json w =
    codes ",\"proxy\":" ++ decimal w.proxy ++ codes ",\"version\":" ++ signed_decimal w.version
    ++ codes ",\"txn\":" ++ decimal w.txn

-- a write, with the transaction that wrote it
abbrev pub write_json : Written → List ℕ
write_json w = codes ",\"write\":{\"range\":" ++ range_json w.range ++ source_json w ++ codes "}"

-- the last member of an object: whether the write is one of the reader's own batch, which has this version
abbrev pub origin_json : ℤ → Written → List ℕ
origin_json version w = if int_eq w.version version then codes ",\"same_batch\":true}" else codes ",\"same_batch\":false}"

-- The object of read range i of the transaction at index j of the batch of this version. The newest write that explains it is given, and
-- the number of other writes.
abbrev pub conflict_json : ℤ → ℕ → ℕ → Range → Option Written → ℕ → List ℕ
conflict_json version j i range None others = []
conflict_json version j i range (Some w) others =
    codes ",{\"txn\":" ++ decimal j ++ codes ",\"read\":" ++ decimal i ++ codes ",\"range\":" ++ range_json range ++ write_json w
    ++ codes ",\"further\":" ++ decimal others ++ origin_json version w

-- the object of the transaction at index j, which is too old
abbrev pub too_old_json : ℕ → ℤ → ℤ → List ℕ
too_old_json j snapshot oldest =
    codes ",{\"txn\":" ++ decimal j ++ codes ",\"too_old\":{\"snapshot\":" ++ signed_decimal snapshot
    ++ codes ",\"oldest\":" ++ signed_decimal oldest ++ codes "}}"

-- the objects as a member, without the comma before the first of them; nothing if there are none
abbrev pub member_json : List ℕ → List ℕ
member_json [] = []
member_json (comma ∷ objects) = codes "\"explanations\":[" ++ objects ++ codes "]"
