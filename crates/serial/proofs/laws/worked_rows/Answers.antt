use Rattle.std.proofs.Common.{refl}
use Rattle.keyspace.proofs.callers.Chains.{limits}
use Rattle.serial.proofs.EffectRows.{are_effects}
use Rattle.serial.proofs.ClauseRows as clauses
use Rattle.serial.proofs.PlanRows as plans
use Rattle.serial.proofs.AnswerRows as answers
use Rattle.serial.proofs.ShardRows as shards
use Rattle.serial.proofs.laws.worked_rows.Goals as goal

pub returns : goal.returns
returns c = record {
  rows = (
    limits,
    record {
      effects_keep_to_ranges = are_effects;
      chain_of_all_kinds = refl;
      flipped_verdict = refl;
      flipped_verdict_differs = clauses.not_same_x _ _ refl refl;
      clauses = clauses.rows limits c.runs_are_chains.ensures.chain;
      plans = plans.rows limits c.runs_are_chains.ensures.chain;
      answers = answers.rows limits;
      shards = shards.rows limits c.runs_are_chains.ensures.chain;
    },
  );
}
