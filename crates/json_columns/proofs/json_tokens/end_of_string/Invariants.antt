use Rattle.std.proofs.Common.{◌≤◌}
use Rattle.json_columns.proofs.json_tokens.end_of_string.Given as goal

abbrev pub invariant-loop-index : goal.invariant-loop-index
invariant-loop-index l = l.from ≤ l.index
