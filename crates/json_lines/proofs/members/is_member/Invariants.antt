use Rattle.std.proofs.Common.{◌≡◌, drop}
use Rattle.json.specs.Value.{members_view}
use Rattle.json_lines.specs.Values.{has_member}
use Rattle.json_lines.proofs.members.is_member.Given as goal

abbrev pub invariant-loop-member : goal.invariant-loop-member
invariant-loop-member l =
    has_member l.name (members_view (drop l.member-index l.members)) ≡ has_member l.name (members_view l.members)
