use Rattle.std.proofs.Common.{◌≡◌, drop, map}
use Rattle.json.specs.Value.{members_view}
use Rattle.json_lines.specs.Names.{name_of}
use Rattle.json_lines.specs.Values.{are_among}
use Rattle.json_lines.proofs.members.check_names.Given as goal

abbrev pub invariant-loop-index : goal.invariant-loop-index
invariant-loop-index l =
    are_among (map name_of l.names) (members_view (drop l.index l.members)) ≡ are_among (map name_of l.names) (members_view l.members)
