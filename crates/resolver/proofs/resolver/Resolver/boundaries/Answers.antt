use Rattle.std.proofs.Common.{subst}
use Rattle.stepmap.specs.StepMap.{AreSteps}
use Rattle.conflict.specs.ConflictSet.{IsSet, SetState}
use Rattle.resolver.specs.Core.{RemembersWindow}
use Rattle.resolver.specs.Resolver.{ResolverState}
use Rattle.resolver.proofs.Windows.{remembers_window}
use Rattle.resolver.proofs.resolver.Resolver.boundaries.Goals as goal

pub returns-clause-window : goal.returns-clause-window
returns-clause-window c =
    subst (λ (r : ResolverState). RemembersWindow r.core) c.self.view_is
    (remembers_window c.self.inside.core c.set.ensures.core
    (subst (λ (s : SetState). IsSet s) c.set.ensures.set c.boundaries.ensures.set))
