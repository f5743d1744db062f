use Rattle.proved_callers.proofs.laws.no_third_proxy.Goals as goal

pub returns : goal.returns
returns c = record {
  served = λ window log first second served are. (c.no_other_proxy.ensures.takes_only 2 log).0 are.proxies;
}
