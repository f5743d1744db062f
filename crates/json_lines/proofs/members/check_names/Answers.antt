use Rattle.std.proofs.Common.{◌≡◌, ◌+◌, map, drop, true, false, ◌∙◌, ap, arith}
use Rattle.std.specs.List.{list_any}
use Rattle.std.specs.Str.{bytes_eq}
use Rattle.json.specs.Value.{members_view}
use Rattle.json_lines.specs.Names.{name_of}
use Rattle.json_lines.specs.Values.{are_among, has_member, if_so}
use Rattle.json_lines.proofs.Objects.{unknown_ends, doubled_ends, among_on, among_done, rest_reported}
use Rattle.json_lines.proofs.members.check_names.Goals as goal

pub returns-then-not-is_one_of : goal.returns-then-not-is_one_of
returns-then-not-is_one_of c =
    let names = map name_of c.args.names.now in
    let ms = c.args.members.now in
    let m = c.index-members-index.result in
    let unknown : list_any (bytes_eq m.0.now) names ≡ false = grind arith in
    record {
      reads = λ _. ap if_so (unknown_ends names ms c.loop-index.index m (are_among names (members_view ms))
          c.loop-index-test.true c.index-members-index.is unknown c.loop-index.invariant);
    }

pub returns-then-is_member : goal.returns-then-is_member
returns-then-is_member c =
    let names = map name_of c.args.names.now in
    let ms = c.args.members.now in
    let m = c.index-members-index.result in
    let again : has_member m.0.now (members_view (drop (c.loop-index.index + 1) ms)) ≡ true =
    rest_reported ms c.loop-index.index m c.is_member.result c.index-members-index.is c.is_member.ensures.exact ∙ c.if-is_member.true in
    record {
      reads = λ _. ap if_so (doubled_ends names ms c.loop-index.index m (are_among names (members_view ms))
          c.loop-index-test.true c.index-members-index.is again c.loop-index.invariant);
    }

pub loop-index-preserved : goal.loop-index-preserved
loop-index-preserved c =
    let names = map name_of c.args.names.now in
    let ms = c.args.members.now in
    let m = c.index-members-index.result in
    let known : list_any (bytes_eq m.0.now) names ≡ true = grind arith in
    let once : has_member m.0.now (members_view (drop (c.loop-index.index + 1) ms)) ≡ false =
    rest_reported ms c.loop-index.index m c.is_member.result c.index-members-index.is c.is_member.ensures.exact ∙ c.if-is_member.false in
    among_on names ms c.loop-index.index m (are_among names (members_view ms)) c.loop-index-test.true
    c.index-members-index.is known once c.loop-index.invariant

pub returns : goal.returns
returns c =
    let names = map name_of c.args.names.now in
    let ms = c.args.members.now in
    record {
      reads = ap if_so (among_done names ms c.loop-index.index (are_among names (members_view ms)) c.loop-index-test.false
          c.loop-index.invariant);
    }
