use Rattle.std.proofs.Common.{◌≤◌, ◌<◌, length, rules}
use Rattle.json.specs.Find.{as_array}
use Rattle.json.specs.Value.{value_view}
use Rattle.json_lines.proofs.Lists.{few, too_many}
use Rattle.json_lines.proofs.items.few_items_of.Goals as goal

pub returns-then-len-limit-clause-reads : goal.returns-then-len-limit-clause-reads
returns-then-len-limit-clause-reads c =
    let many : c.args.limit < length c.in_ok-items.items.now.items = search rules in
    λ _. too_many c.args.limit (as_array (value_view c.args.value.now)) c.in_ok-items.items.now.items c.in_ok-items.ensures.reads many

pub returns-clause-reads : goal.returns-clause-reads
returns-clause-reads c =
    let le : length c.in_ok-items.items.now.items ≤ c.args.limit = search rules in
    few c.args.limit (as_array (value_view c.args.value.now)) c.in_ok-items.items.now.items c.in_ok-items.ensures.reads le
