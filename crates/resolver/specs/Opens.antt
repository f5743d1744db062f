-- What it is to open a resolver. This project's own.
use Rattle.std.specs.Prelude.{◌≡◌, ℕ, ℤ, List, [], length, All, None}
use Rattle.resolver.specs.declared.client.Client.{Client}
use Rattle.resolver.specs.Resolver.{ResolverState, StandsOverFrom, IsResolvingFrom, AreClients, IsNewClient}

-- a new resolver, which starts at the version, and its new clients
pub record Opens (start : ℤ) (count capacity : ℕ) (width : ℤ) (most : ℕ) (r : ResolverState) (clients : List Client)
    : Type 0 where
  pub stands : StandsOverFrom start r []
  pub resolving : IsResolvingFrom start r
  pub no_stop : r.core.stop ≡ None
  pub version : r.core.version ≡ start
  pub next : r.next ≡ 0
  pub window : r.core.set.window ≡ width
  pub limit : r.core.set.map.limit ≡ most
  pub proxies : length clients ≡ count
  pub same : AreClients r.lanes clients
  pub new_clients : All (IsNewClient capacity) clients
