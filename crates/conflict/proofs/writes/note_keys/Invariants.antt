use Rattle.std.proofs.Common.{◌≡◌}
use Rattle.conflict.proofs.writes.note_keys.Given as goal

abbrev pub invariant-loop-span : goal.invariant-loop-span
invariant-loop-span l = l.steps ≡ l.fn.steps
