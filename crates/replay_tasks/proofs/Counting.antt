-- The ranges that conflict most in a run, from what an observer has seen of it.
use Rattle.std.specs.Prelude.{◌≡◌, ℤ, List, Option}
use Rattle.std.proofs.Common.{subst, sym}
use Rattle.keyspace.specs.Chain.{IsChain}
use Rattle.keyspace.specs.Processed.{Processed}
use Rattle.keyspace.specs.Run.{Step, run}
use Rattle.limits.specs.declared.stop.Stop.{Stop}
use Rattle.resolver.specs.Observed.{HasSeen}
use Rattle.replay_tasks.proofs.Explaining.{chain_begins}

module _ (Seen : List Processed → Type 0) (stop : Option Stop) (window : ℤ) (log : List Step) (saw : HasSeen Seen stop window log) where
  -- what was seen is a chain
  pub seen_chain : (other : ℤ) → other ≡ window → IsChain window (run window log).processed → IsChain other saw.list
  seen_chain other same chain =
      let begins = saw.no_others in
      subst (λ (w : ℤ). IsChain w saw.list) (sym same)
      (chain_begins window saw.list begins.0 (run window log).processed begins.1 chain)
