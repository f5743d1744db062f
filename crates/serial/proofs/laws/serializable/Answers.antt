use Rattle.serial.proofs.Reading.{chain_current}
use Rattle.serial.proofs.Running.{current_serializable, current_effects}
use Rattle.serial.proofs.laws.serializable.Goals as goal

pub returns-clause-serializable : goal.returns-clause-serializable
returns-clause-serializable c = current_serializable

pub returns-clause-chains : goal.returns-clause-chains
returns-clause-chains c window ps chain = current_serializable ps (chain_current window ps chain)

pub returns-clause-effects : goal.returns-clause-effects
returns-clause-effects c window ps chain = current_effects ps (chain_current window ps chain)
