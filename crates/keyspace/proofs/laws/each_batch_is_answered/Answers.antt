use Rattle.keyspace.proofs.Answered.{each_is_answered, none_is_held}
use Rattle.keyspace.proofs.laws.each_batch_is_answered.Goals as goal

pub returns-clause-once : goal.returns-clause-once
returns-clause-once c = each_is_answered

pub returns-clause-none_held : goal.returns-clause-none_held
returns-clause-none_held c = none_is_held
