use Rattle.std.proofs.Common.{rules, ℕ, inr, subst}
use Rattle.archcaraway_c.specs.CoreObject.{Admits, StopsAt}
use Rattle.archcaraway_c.proofs.core_object.CoreObject.admit.Goals as goal

pub returns-in-Ok-take-clause-admitted : goal.returns-in-Ok-take-clause-admitted
returns-in-Ok-take-clause-admitted c =
    let batch = c.in-Ok-decode.batch in (
      batch,
      c.in-Ok-decode.ensures.frame,
      subst (λ (number : ℕ). Admits c.args.self.now.core number batch c.take.new.self.core)
          c.in-Ok.ensures.known.0 c.in-Ok-take.ensures.admitted,
      c.in-Ok-take.ensures.room,
    )

pub returns-in-Err-take-clause-refused : goal.returns-in-Err-take-clause-refused
returns-in-Err-take-clause-refused c =
    let batch = c.in-Ok-decode.batch in (
      search rules,
      inr (
        search rules,
        (
          batch,
          c.in-Ok-decode.ensures.frame,
          subst (λ (number : ℕ). StopsAt c.args.self.now.core c.take.new.self.core number batch c.in-Err-take.stop)
              c.in-Ok.ensures.known.0 c.in-Err-take.ensures.stops,
        ),
      ),
    )
