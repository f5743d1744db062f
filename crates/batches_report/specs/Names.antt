-- Names of read ranges that conflict. This project's own.
use Rattle.std.specs.Prelude.{◌≡◌, ℕ, Bool, List, [], ◌∷◌, ◌++◌, flat_map, codes, count_by, Option, Some, None, slice_get, if◌then◌else◌}
use Rattle.std.specs.List.{list_any}
use Rattle.std.specs.Str.{bytes_eq}
use Rattle.keys.specs.declared.range.Range.{Range}
use Rattle.keyspace.specs.declared.txn.Txn.{Txn}
use Rattle.keyspace.specs.storage.Fields.{range_fields}
use Rattle.wire.specs.Spelling.{is_single_key}
use Rattle.json_lines.specs.KeyForm.{quoted_key}

-- the one key of a range, or its two keys, in their printed form
abbrev pub name_of : Range → List ℕ
name_of range =
    if is_single_key (range_fields range) then quoted_key range.begin
    else quoted_key range.begin ++ codes " .. " ++ quoted_key range.end

-- the name of a range, if there is one
abbrev pub name_if_some : Option Range → List (List ℕ)
name_if_some None = []
name_if_some (Some range) = name_of range ∷ []

-- the names of the read ranges at the places
abbrev pub names_at : Txn → List ℕ → List (List ℕ)
names_at t places = flat_map (λ place. name_if_some (slice_get t.reads place)) places

-- the name is one of these
abbrev pub is_among : List (List ℕ) → List ℕ → Bool
is_among names name = list_any (bytes_eq name) names

-- a name that is one of all is once among these, and no other name is
abbrev pub AreEachOnce : List (List ℕ) → List (List ℕ) → Type 0
AreEachOnce all these = (name : List ℕ) → count_by (bytes_eq name) these ≡ (if is_among all name then 1 else 0)
