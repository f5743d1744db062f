-- Why a resolver stops, by what its conflict set refuses. This project's own.
use Rattle.limits.specs.declared.stop.Stop.{Stop}
use Rattle.limits.specs.declared.stop.Stop.TheVariants.{Memory, ArenaFull}
use Rattle.conflict.specs.declared.error.SetStop.{SetStop}
use Rattle.conflict.specs.declared.error.SetStop.TheVariants as set

abbrev pub stop_at_set : SetStop → Stop
stop_at_set set.Memory = Memory
stop_at_set set.ArenaFull = ArenaFull
