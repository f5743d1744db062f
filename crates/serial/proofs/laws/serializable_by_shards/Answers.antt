use Rattle.serial.proofs.Isolation.{current_isolated}
use Rattle.serial.proofs.Running.{current_serializable, current_effects}
use Rattle.serial.proofs.ByShards.{shards_current, shards_rise}
use Rattle.serial.proofs.Places.{places}
use Rattle.serial.proofs.Following.{real_time}
use Rattle.serial.proofs.EntireChain.{serializable}
use Rattle.serial.proofs.laws.serializable_by_shards.Goals as goal

pub returns-clause-current : goal.returns-clause-current
returns-clause-current c = shards_current

pub returns-clause-isolated : goal.returns-clause-isolated
returns-clause-isolated c window points each ps by_shards =
    current_isolated ps (shards_current window points each ps by_shards)

pub returns-clause-serializable : goal.returns-clause-serializable
returns-clause-serializable c window points each ps by_shards =
    current_serializable ps (shards_current window points each ps by_shards)

pub returns-clause-effects : goal.returns-clause-effects
returns-clause-effects c window points each ps by_shards =
    current_effects ps (shards_current window points each ps by_shards)

pub returns-clause-places : goal.returns-clause-places
returns-clause-places c window points each ps by_shards =
    places ps (shards_rise window points each ps by_shards) (shards_current window points each ps by_shards)

pub returns-clause-follows : goal.returns-clause-follows
returns-clause-follows c window points each ps by_shards =
    real_time ps (shards_rise window points each ps by_shards)

pub returns-clause-all : goal.returns-clause-all
returns-clause-all c window points each ps by_shards =
    serializable ps (shards_rise window points each ps by_shards) (shards_current window points each ps by_shards)
