use Rattle.std.proofs.Common.{ℤ, SFits, w64, Some, ap, rules, sym, ◌∙◌}
use Rattle.std.proofs.lemmas.Int.{to_z-of_z}
use Rattle.keyspace.specs.Processed.{Processed}
use Rattle.keyspace.proofs.callers.Chains.{version_of-more}
use Rattle.replay_output.proofs.Results.{on_err}
use Rattle.replay_tasks.proofs.reached.ReachedObserver.see.Goals as goal

pub returns-clause-seen : goal.returns-clause-seen
returns-clause-seen g c = λ ps has.
    let p : Processed = record { proxy = c.args.proxy; batch = c.args.batch; reply = c.args.reply.now } in
    let fits : SFits w64 c.args.batch.version = search rules in (
      c.in_ok-see.ensures.seen ps has.0,
      ap (λ (v : ℤ). Some v) (to_z-of_z w64 c.args.batch.version fits ∙ sym (version_of-more ps p)),
    )

pub returns-in_err-see-clause-unseen : goal.returns-in_err-see-clause-unseen
returns-in_err-see-clause-unseen g c = on_err c.from_residual.result (λ ps has. (c.in_err-see.ensures.unseen ps has.0, has.1))
