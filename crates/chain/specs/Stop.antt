-- Why a resolver stops, by what its store of the chain refuses. This project's own.
use Rattle.limits.specs.declared.stop.Stop.{Stop}
use Rattle.limits.specs.declared.stop.Stop.TheVariants.{Memory, GateFull}
use Rattle.chain.specs.declared.error.ChainError.{ChainError}
use Rattle.chain.specs.declared.error.ChainError.TheVariants as chain

abbrev pub stop_at_chain : ChainError → Stop
stop_at_chain chain.Memory = Memory
stop_at_chain chain.GateFull = GateFull
