use Rattle.std.proofs.Common.{rules, arith, ◌≡◌, ℕ, negsuc, length, take, FitsSigned, w64, inr, refl, sym, ap, subst, ◌∙◌}
use Rattle.std.proofs.lemmas.Int.{to_z-of_z}
use Rattle.std.proofs.lemmas.List.{length-map}
use Rattle.keyspace.specs.storage.Fields.{txn_fields}
use Rattle.archcaraway_c.specs.BatchObject.{IsBatchOf}
use Rattle.archcaraway_c.specs.Judging.{JudgesBatch, JudgeRefuses}
use Rattle.archcaraway_c.specs.declared.refusal.Refusal.{Refusal}
use Rattle.archcaraway_c.proofs.set_object.SetObject.judge.Goals as goal
use Rattle.archcaraway_c.proofs.set_object.SetObject.judge.Goals.{In-Ok}

is_batch : (c : In-Ok) → IsBatchOf (negsuc 0) c.args.version (negsuc 0) c.args.batch.now c.in-Ok.batch
is_batch c =
    let is = c.in-Ok.ensures.batch in
    let version : FitsSigned w64 c.args.version = search rules in
    record {
      previous_is = is.previous_is;
      version_is = is.version_is ∙ to_z-of_z w64 c.args.version version;
      received_is = is.received_is;
      txns_are = is.txns_are;
    }

pub returns-in-Ok-judge_batch-clause-judged : goal.returns-in-Ok-judge_batch-clause-judged
returns-in-Ok-judge_batch-clause-judged c =
    let at = goal.at.returns-in-Ok-judge_batch-clause-judged c in
    let batch = c.in-Ok.batch in
    let count : length batch.txns ≡ length c.args.batch.now =
    omega (arith, length-map batch.txns txn_fields, ap length c.in-Ok.ensures.batch.txns_are) in
    record {
      batch = batch;
      asked = is_batch at.In-Ok;
      judges = subst (λ (n : ℕ). JudgesBatch c.args.self.now c.judge_batch.new.self batch
          (take n c.judge_batch.new.verdicts)) count c.in-Ok-judge_batch.ensures.judges;
    }

pub returns-clause-refused : goal.returns-clause-refused
returns-clause-refused c =
    let at = goal.at.returns-clause-refused c in
    let s = c.in-Err.ensures.stops in
    subst (λ (r : Refusal). JudgeRefuses c.args.when_full c.args.self.now c.judge_batch.new.self c.args.version c.args.batch.now
    (length c.args.verdicts.now) r) (sym s.1)
    (inr (
      search rules,
      record {
        batch = c.in-Ok.batch;
        asked = is_batch at.In-Ok;
        rising = search rules;
        met = s.0;
        stop_is = refl;
        at_batch = s.2;
      },
    ))
