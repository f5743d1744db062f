-- The text of the ranges that conflict most: lines of words, or members of an object of JSON. This project's own formats.
use Rattle.std.specs.Prelude.{List, ℕ, ◌++◌, codes, flat_map}
use Rattle.std.specs.Fmt.{decimal}
use Rattle.json.specs.Json.{Json, number, object, member, no_members}
use Rattle.json.specs.Print.{print}
use Rattle.json.specs.Tree.{json_tokens}
use Rattle.json_lines.specs.KeyForm.{quoted_key}
use Rattle.json_lines.specs.Written.{key_json, list_json}
use Rattle.replay_hot_ranges.specs.declared.hot_range.HotRange.{HotRange}
use Rattle.replay_hot_ranges.specs.declared.hot_range.Top.{Top}

-- a range: its begin and its end
abbrev pub range_form : List ℕ → List ℕ → List ℕ
range_form begin end = codes "[" ++ quoted_key begin ++ codes "," ++ quoted_key end ++ codes ")"

-- the line of a range: its count, and then the range
abbrev pub hot_line : HotRange → List ℕ
hot_line hot = codes "  " ++ decimal hot.conflicts ++ codes " " ++ range_form hot.begin.now hot.end.now ++ codes "\n"

-- the read ranges and then the written ranges, each under a heading
abbrev pub lines : Top → List ℕ
lines top =
    codes "read ranges in conflict, most first\n" ++ flat_map hot_line top.reads.items
    ++ codes "written ranges in conflict, most first\n" ++ flat_map hot_line top.writes.items

-- a range as an object of JSON, with its keys in the printed form
unfoldable pub hot_json : HotRange → Json
hot_json hot =
    object (member (codes "begin") (key_json hot.begin.now)
    (member (codes "end") (key_json hot.end.now)
    (member (codes "conflicts") (number (decimal hot.conflicts)) no_members)))

-- the array of the ranges, without spaces
abbrev pub hot_array : List HotRange → List ℕ
hot_array hot = print (json_tokens (list_json hot_json hot))

-- the two members of an object
abbrev pub members : Top → List ℕ
members top =
    codes "\"hot_reads\":" ++ hot_array top.reads.items ++ codes ",\"hot_writes\":" ++ hot_array top.writes.items
