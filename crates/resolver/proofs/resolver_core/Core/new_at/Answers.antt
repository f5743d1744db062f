use Rattle.std.proofs.Common.{w64, to_z, of_z, [], length, None, refl, sym, ap, subst, ◌∙◌}
use Rattle.std.specs.Prelude.{negsuc, ◌≤ℤ◌}
use Rattle.std.proofs.lemmas.Int.{to_z-of_z}
use Rattle.std.proofs.lemmas.List.{length-replicate}
use Rattle.keyspace.specs.Run.{run}
use Rattle.resolver.specs.Core.{core_of, IsIn}
use Rattle.resolver.specs.OpeningLog.{opening_log}
use Rattle.resolver.proofs.OpenedCore.{is_core, is_in_opening}
use Rattle.resolver.proofs.resolver_core.Core.new_at.Goals as goal

pub invariant_of-result : goal.invariant_of-result
invariant_of-result c =
    let set = c.in_ok-set.set in
    is_core set.window c.args.proxies set c.new.result c.in-Ok.replies c.in-Ok.owed
    c.new.ensures.empty c.in-Ok.ensures.owed (to_z w64 (of_z w64 c.args.version))
    c.in_ok-set.ensures.continues c.in_ok-set.ensures.resolved _ c.in_ok-set.ensures.remembers
    (c.in-Ok.ensures.kept set.window)

pub returns-clause-new : goal.returns-clause-new
returns-clause-new c =
    let set = c.in_ok-set.set in
    let v = to_z w64 (of_z w64 c.args.version) in
    let same = to_z-of_z w64 c.args.version c.ranges.version in
    record {
      stands =
          subst (λ x. IsIn (run set.window (opening_log c.args.proxies x)) (λ _. [])
          (core_of set v c.new.result c.in-Ok.replies c.in-Ok.owed None)) same
          (is_in_opening set.window c.args.proxies set c.new.result c.in-Ok.replies c.in-Ok.owed
          c.new.ensures.empty c.in-Ok.ensures.owed v
          (subst (λ x. negsuc 0 ≤ℤ x) (sym same) c.requires.least_version)
          c.in_ok-set.ensures.remembers (c.in-Ok.ensures.kept set.window));
      «open» = refl;
      proxies = ap length c.in-Ok.ensures.owed ∙ length-replicate c.args.proxies _;
      window = c.in_ok-set.ensures.window ∙ to_z-of_z w64 c.args.window c.ranges.window;
      limit = c.in_ok-set.ensures.limit;
    }
