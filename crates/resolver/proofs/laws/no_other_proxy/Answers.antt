use Rattle.std.proofs.Common.{length}
use Rattle.resolver.proofs.OnlyFrom.{none_of_others, takes_only, stands_only}
use Rattle.resolver.proofs.laws.no_other_proxy.Goals as goal

pub returns-clause-takes_only : goal.returns-clause-takes_only
returns-clause-takes_only c = λ proxies log. (none_of_others proxies log, takes_only proxies log)

pub returns-clause-stands : goal.returns-clause-stands
returns-clause-stands c = λ version r log stands.
    none_of_others (length r.lanes) log (stands_only version r log stands)

pub returns-clause-settled : goal.returns-clause-settled
returns-clause-settled c = λ version window log lanes clients account settled.
    none_of_others (length clients) log settled.proxies
