-- Ranges as JSON: a pair of keys, or one key for the range of that key alone.
use Rattle.std.specs.Prelude.{◌≡◌, ◌⊎◌, ℕ, List, [], ◌∷◌, ◌++◌, length, nat_le, Option, Some, None, option_map, if◌then◌else◌}
use Rattle.json.specs.Json.{Json, null, boolean, number, string, array, object, Items, no_items, item}
use Rattle.json.specs.Find.{as_str}
use Rattle.keys.specs.Key.{is_before}
use Rattle.keys.specs.declared.key.TheConstants.{MAX_KEY_LENGTH}
use Rattle.keyspace.specs.storage.Fields.{RangeFields}
use Rattle.keyspace.specs.declared.txn.TheConstants.{MAX_RANGES}
use Rattle.wire.specs.Spelling.{single_key}
use Rattle.keys.specs.declared.single_key.TheConstants.{MAX_SINGLE_KEY_LENGTH}
use Rattle.json_lines.specs.KeyForm.{spelled_key}
use Rattle.json_lines.specs.Values.{◌>>=◌, list_in}

-- a key of at most n bytes
unfoldable pub key_within : ℕ → List ℕ → Option (List ℕ)
key_within limit text = do
  key ← spelled_key text
  if nat_le (length key) limit then Some key else None

-- the line, with its line feed or without one, spells the key
abbrev pub IsKeyLine : List ℕ → List ℕ → Type 0
IsKeyLine line key =
    (text : List ℕ) × ((line ≡ text ++ 10 ∷ []) ⊎ (line ≡ text)) × (key_within MAX_KEY_LENGTH text ≡ Some key)

abbrev pub key_in : Json → Option (List ℕ)
key_in j = as_str j >>= key_within MAX_KEY_LENGTH

-- the range from one key up to another
unfoldable pub ends_in : Json → Json → Option RangeFields
ends_in begins ends = do
  begin ← key_in begins
  end ← key_in ends
  if is_before end begin then None else Some (record { begin = begin; end = end })

unfoldable pub pair_in : Items → Option RangeFields
pair_in no_items = None
pair_in (item a no_items) = None
pair_in (item a (item b no_items)) = ends_in a b
pair_in (item a (item b (item c js))) = None

abbrev pub single_in : List ℕ → Option RangeFields
single_in text = option_map single_key (key_within MAX_SINGLE_KEY_LENGTH text)

abbrev pub range_in : Json → Option RangeFields
range_in null = None
range_in (boolean b) = None
range_in (number s) = None
range_in (string s) = single_in s
range_in (array js) = pair_in js
range_in (object ms) = None

abbrev pub ranges_in : Json → Option (List RangeFields)
ranges_in j = list_in range_in MAX_RANGES j
