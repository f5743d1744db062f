use Rattle.std.proofs.Common.{◌≡◌, drop, map}
use Rattle.std.specs.List.{list_any}
use Rattle.std.specs.Str.{bytes_eq}
use Rattle.json_lines.specs.Names.{name_of}
use Rattle.json_lines.proofs.members.is_one_of.Given as goal

abbrev pub invariant-loop-member : goal.invariant-loop-member
invariant-loop-member l =
    list_any (bytes_eq l.name) (map name_of (drop l.member-index l.names)) ≡ list_any (bytes_eq l.name) (map name_of l.names)
