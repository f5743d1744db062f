use Rattle.std.proofs.Common.{ℕ, ℤ, w64, to_z, of_z, [], sym, ap, subst, ◌∙◌}
use Rattle.std.proofs.lemmas.Int.{to_z-of_z}
use Rattle.resolver.specs.Core.{CoreState}
use Rattle.resolver.specs.Stands.{Stands}
use Rattle.resolver.specs.OpeningLog.{opening_log}
use Rattle.resolver.specs.Resolver.{StandsOverFrom, AreClients}
use Rattle.resolver.proofs.FromVersion.{version_opened}
use Rattle.resolver.proofs.resolver_opening.open_at.Goals as goal

pub returns-clause-opens : goal.returns-clause-opens
returns-clause-opens c =
    let same = to_z-of_z w64 c.args.version c.ranges.version in
    let core = c.in_ok-core.core in
    let new = c.in_ok-core.ensures.new in
    let stands : StandsOverFrom c.args.version c.new.result [] =
    subst (λ (v : ℤ). StandsOverFrom v c.new.result []) same
    (c.new.ensures.stands (to_z w64 (of_z w64 c.args.version))
    (subst (λ (n : ℕ). Stands core (opening_log n (to_z w64 (of_z w64 c.args.version))) (λ _. []))
    (sym new.proxies) new.stands)) in
    let none = ap (λ (core : CoreState). core.stop) c.new.ensures.core ∙ new.«open» in
    let connected = c.in-Ok.ensures.connected in
    record {
      stands = stands;
      resolving = record { log = []; stands = stands };
      no_stop = none;
      version = version_opened c.args.version c.new.result stands none c.requires.least_version;
      next = c.new.ensures.next;
      window =
          ap (λ (core : CoreState). core.set.window) c.new.ensures.core ∙ new.window
          ∙ to_z-of_z w64 c.args.window c.ranges.window;
      limit = ap (λ (core : CoreState). core.set.map.limit) c.new.ensures.core ∙ new.limit;
      proxies = connected.client_count;
      same = subst (λ lanes. AreClients lanes c.in-Ok.clients.items) (sym c.new.ensures.lanes) connected.same;
      new_clients = connected.new_clients;
    }
