-- The reply that a line spells.
use Rattle.std.specs.Prelude.{ℕ, ◌+◌, ℤ, pos, negsuc, int_le, List, [], ◌∷◌, codes, ◌&&◌, nat_le, nat_lt, Option, Some, None, option_map, if◌then◌else◌}
use Rattle.std.specs.Str.{bytes_eq}
use Rattle.json.specs.Json.{Json, null, boolean, number, string, array, object, Items, no_items, item, document}
use Rattle.json.specs.Find.{as_array}
use Rattle.keyspace.specs.declared.batch.TheConstants.{MAX_TXNS}
use Rattle.keyspace.specs.declared.txn.TheConstants.{MAX_RANGES}
use Rattle.keyspace.specs.declared.reply.Verdict.{Verdict}
use Rattle.keyspace.specs.declared.reply.Verdict.TheVariants as verdict
use Rattle.wire.specs.Fields.{EntryFields, ReplyFields}
use Rattle.json_lines.specs.Names.{name_of}
use Rattle.json_lines.specs.Values.{◌>>=◌, number_in, list_in, has_only, if_so, required_member}
use Rattle.json_lines.specs.declared.member.Member.TheVariants.{Version, Verdicts, Conflict}

abbrev pub verdict_names : List ℕ → Option Verdict
verdict_names word =
    if bytes_eq word (codes "conflict") then Some verdict.Conflict
    else if bytes_eq word (codes "tooold") then Some verdict.TooOld
    else if bytes_eq word (codes "committed") then Some verdict.Committed
    else None

-- a verdict with no report
abbrev pub plain_entry : Verdict → EntryFields
plain_entry v = record { verdict = v; places = [] }

-- a number from the least up to the limit of ranges
abbrev pub place_from : ℕ → ℤ → Option ℕ
place_from least (pos n) = if nat_le least n && nat_lt n MAX_RANGES then Some n else None
place_from least (negsuc n) = None

abbrev pub place_in : ℕ → Json → Option ℕ
place_in least j = number_in j >>= place_from least

-- rising places of which none is below the least
unfoldable pub rising : ℕ → Items → Option (List ℕ)
rising least no_items = Some []
rising least (item j js) = do
  place ← place_in least j
  places ← rising (place + 1) js
  Some (place ∷ places)

abbrev pub places_in : Json → Option (List ℕ)
places_in j = as_array j >>= rising 0

abbrev pub conflict_with : List ℕ → EntryFields
conflict_with places = record { verdict = verdict.Conflict; places = places }

-- a conflict with its report
unfoldable pub report_in : Json → Option EntryFields
report_in j =
    if_so (has_only (name_of Conflict ∷ []) j) >>= λ _. option_map conflict_with (required_member places_in (name_of Conflict) j)

abbrev pub plain_in : List ℕ → Option EntryFields
plain_in word = option_map plain_entry (verdict_names word)

abbrev pub entry_in : Json → Option EntryFields
entry_in null = None
entry_in (boolean b) = None
entry_in (number s) = None
entry_in (string s) = plain_in s
entry_in (array js) = None
entry_in (object ms) = report_in (object ms)

abbrev pub reply_names : List (List ℕ)
reply_names = name_of Version ∷ name_of Verdicts ∷ []

abbrev pub entries_in : Json → Option (List EntryFields)
entries_in j = list_in entry_in MAX_TXNS j

unfoldable pub reply_members : Json → Option ReplyFields
reply_members j = do
  version ← required_member number_in (name_of Version) j
  entries ← required_member entries_in (name_of Verdicts) j
  ok ← if_so (int_le (pos 0) version)
  Some (record { version = version; entries = entries })

unfoldable pub reply_in : Json → Option ReplyFields
reply_in j = if_so (has_only reply_names j) >>= λ _. reply_members j

-- the reply that a text spells
abbrev pub reply_of : List ℕ → Option ReplyFields
reply_of text = document text >>= reply_in
