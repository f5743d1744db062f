use Rattle.std.proofs.Common.{◌≡◌, ◌++◌, length, take, drop, sym, subst, All, rules, arith}
use Rattle.std.proofs.lemmas.Grind.{common_steps}
use Rattle.keyspace.specs.storage.InOrder.{in_order_by}
use Rattle.replay_output.specs.Line.{version_of_line}
use Rattle.replay_shards.specs.Answered.{IsKept}
use Rattle.replay_shards.proofs.Sorted.{kept_in_order}
use Rattle.replay_shards.proofs.answered.answers_in_order.Goals as goal

pub kept_answers-requires : goal.kept_answers-requires
kept_answers-requires c =
    let lines = c.args.lines in
    let sorted = c.sort_by_version.new.items in
    let same : take lines.len (sorted ++ drop (length sorted) lines.items) ≡ in_order_by version_of_line lines.items =
    first_of (search rules, grind (arith, common_steps)) in
    record { kept = subst (All IsKept) (sym same) (kept_in_order lines.items c.requires.kept) }
