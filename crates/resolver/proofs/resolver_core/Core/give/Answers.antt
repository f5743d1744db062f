use Rattle.std.proofs.Common.{◌++◌, sym, ap, subst, ◌∙◌}
use Rattle.std.specs.Prelude.{option_to_list}
use Rattle.resolver.specs.Owed.{owed_to}
use Rattle.resolver.specs.Core.{CoreState, core_of}
use Rattle.resolver.specs.Stands.{StandsBy, Stands, given_also}
use Rattle.resolver.proofs.Standing.{StandsBy-given}
use Rattle.resolver.proofs.resolver_core.Core.give.Goals as goal

pub returns-clause-stands : goal.returns-clause-stands
returns-clause-stands c = λ log given stands.
    let now = c.self.inside in
    let old = core_of now.set now.version now.gate now.replies now.owed now.stop in
    let was = subst (λ (core : CoreState). Stands core log given) (sym c.self.view_is) stands in
    let oldest = c.pop.ensures.oldest
    ∙ ap (λ owed. option_to_list c.pop.result ++ owed_to c.args.proxy owed) c.pop.ensures.answers in
    subst (λ owed. StandsBy now.stop log (given_also c.args.proxy c.pop.result given) (record old { owed = owed }))
    (sym c.pop.ensures.answers)
    (StandsBy-given c.args.proxy c.pop.result given old oldest now.stop log was)
