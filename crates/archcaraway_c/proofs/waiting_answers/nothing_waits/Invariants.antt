use Rattle.std.proofs.Common.{◌≡◌, replicate, None}
use Rattle.archcaraway_c.proofs.waiting_answers.nothing_waits.Given as goal

abbrev pub invariant-loop : goal.invariant-loop
invariant-loop l = l.waiting.items ≡ replicate l.counter None
