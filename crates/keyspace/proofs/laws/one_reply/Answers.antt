use Rattle.keyspace.proofs.Judging.{judge_judged, only_judge}
use Rattle.keyspace.proofs.laws.one_reply.Goals as goal

pub returns-clause-right : goal.returns-clause-right
returns-clause-right c = judge_judged

pub returns-clause-only : goal.returns-clause-only
returns-clause-only c = only_judge
