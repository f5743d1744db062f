use Rattle.std.proofs.Common.{◌≡◌, [], replicate}
use Rattle.resolver.proofs.Queues.{answers_of}
use Rattle.resolver.proofs.owed.Owed.new.Given as goal

abbrev pub invariant-loop : goal.invariant-loop
invariant-loop l = answers_of l.queues.items ≡ replicate l.counter []
