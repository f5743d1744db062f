use Rattle.std.proofs.Common.{rules, ◌≡◌, ◌++◌, ◌∷◌, [], length, Some, sym, ap, subst, ◌∙◌, arith}
use Rattle.std.proofs.lemmas.Grind.{common_steps}
use Rattle.keyspace.specs.Run.{Finish, run}
use Rattle.resolver.specs.Core.{CoreState}
use Rattle.resolver.specs.Stands.{StoppedIn}
use Rattle.resolver.proofs.Standing.{IsIn-standing, StandsBy-more, StoppedIn-more, MadeBetween-stopped, AddsStep-stopped}
use Rattle.resolver.proofs.resolver_core.Core.finish.Goals as goal

pub returns-in-Some-clause-adds : goal.returns-in-Some-clause-adds
returns-in-Some-clause-adds c =
    let met : c.args.self.now.stop ≡ Some c.in-Some.stop =
    sym (ap (λ (core : CoreState). core.stop) c.self.view_is) ∙ c.in-Some.is in
    AddsStep-stopped Finish c.in-Some.stop c.args.self.now met

pub returns-in-Err-clause-adds : goal.returns-in-Err-clause-adds
returns-in-Err-clause-adds c =
    let old = c.args.self.now in
    let met = c.answer_held-finished.new.self in
    let stop = Some c.in-Err.stop in
    record {
      stands = λ none log given stands.
          subst (λ (core : CoreState). StoppedIn (log ++ Finish ∷ []) given (record core { stop = stop }))
          (sym c.self-2.view_is)
          (StoppedIn-more old.set.window log Finish given (record met { stop = stop })
          c.answer_held-finished.ensures.advances.continues.window
          (MadeBetween-stopped stop given met _ _
          (c.in-Err.ensures.advances.err (run old.set.window log) given
          (IsIn-standing old.stop log given old none stands))));
      «open» = first_of (search rules, grind (arith, common_steps));
      stops = first_of (search rules, grind (arith, common_steps));
      stopped = first_of (search rules, grind (arith, common_steps));
      continues =
          let k = c.answer_held-finished.ensures.advances.continues in
          record {
            window = ap (λ (core : CoreState). core.set.window) c.self-2.view_is ∙ k.window;
            limit = ap (λ (core : CoreState). core.set.map.limit) c.self-2.view_is ∙ k.limit;
            proxies = ap (λ (core : CoreState). length core.owed) c.self-2.view_is ∙ k.proxies;
          };
    }

pub returns-in_default-finished-clause-adds : goal.returns-in_default-finished-clause-adds
returns-in_default-finished-clause-adds c =
    let old = c.args.self.now in
    let new = c.answer_held-finished.new.self in
    record {
      stands = λ none log given stands.
          StandsBy-more old.set.window log Finish given new c.answer_held-finished.ensures.advances.continues.window
          new.stop (c.answer_held-finished.ensures.stop ∙ none)
          (c.in_default-finished.ensures.advances.ok (run old.set.window log) given
          (IsIn-standing old.stop log given old none stands));
      «open» = first_of (search rules, grind (arith, common_steps));
      stops = first_of (search rules, grind (arith, common_steps));
      stopped = first_of (search rules, grind (arith, common_steps));
      continues = c.answer_held-finished.ensures.advances.continues;
    }
