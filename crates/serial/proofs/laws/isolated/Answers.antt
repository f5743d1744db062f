use Rattle.serial.proofs.Reading.{chain_current}
use Rattle.serial.proofs.Isolation.{current_isolated}
use Rattle.serial.proofs.laws.isolated.Goals as goal

pub returns-clause-isolated : goal.returns-clause-isolated
returns-clause-isolated c = current_isolated

pub returns-clause-chains : goal.returns-clause-chains
returns-clause-chains c window ps chain = current_isolated ps (chain_current window ps chain)
