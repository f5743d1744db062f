use Rattle.std.proofs.Common.{rules, ℕ, FitsSigned, w64, inr, subst, ◌∙◌}
use Rattle.std.proofs.lemmas.Int.{to_z-of_z}
use Rattle.archcaraway_c.specs.BatchObject.{IsBatchOf}
use Rattle.archcaraway_c.specs.CoreObject.{Admits, StopsAt}
use Rattle.archcaraway_c.proofs.core_object.CoreObject.admit_batch.Goals as goal
use Rattle.archcaraway_c.proofs.core_object.CoreObject.admit_batch.Goals.{In-Ok-to_batch}

is_batch : (c : In-Ok-to_batch)
    → IsBatchOf c.args.previous c.args.version c.args.received c.args.batch.now c.in-Ok-to_batch.batch
is_batch c =
    let is = c.in-Ok-to_batch.ensures.batch in
    let previous : FitsSigned w64 c.args.previous = search rules in
    let version : FitsSigned w64 c.args.version = search rules in
    let received : FitsSigned w64 c.args.received = search rules in
    record {
      previous_is = is.previous_is ∙ to_z-of_z w64 c.args.previous previous;
      version_is = is.version_is ∙ to_z-of_z w64 c.args.version version;
      received_is = is.received_is ∙ to_z-of_z w64 c.args.received received;
      txns_are = is.txns_are;
    }

pub returns-in-Ok-take-clause-admitted : goal.returns-in-Ok-take-clause-admitted
returns-in-Ok-take-clause-admitted c =
    let at = goal.at.returns-in-Ok-take-clause-admitted c in
    let batch = c.in-Ok-to_batch.batch in (
      batch,
      is_batch at.In-Ok-to_batch,
      subst (λ (number : ℕ). Admits c.args.self.now.core number batch c.take.new.self.core)
          c.in-Ok.ensures.known.0 c.in-Ok-take.ensures.admitted,
      c.in-Ok-take.ensures.room,
    )

pub returns-in-Err-take-clause-refused : goal.returns-in-Err-take-clause-refused
returns-in-Err-take-clause-refused c =
    let at = goal.at.returns-in-Err-take-clause-refused c in
    let batch = c.in-Ok-to_batch.batch in (
      search rules,
      inr (
        search rules,
        (
          batch,
          is_batch at.In-Ok-to_batch,
          subst (λ (number : ℕ). StopsAt c.args.self.now.core c.take.new.self.core number batch c.in-Err-take.stop)
              c.in-Ok.ensures.known.0 c.in-Err-take.ensures.stops,
        ),
      ),
    )
