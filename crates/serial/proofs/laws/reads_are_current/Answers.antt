use Rattle.serial.proofs.Reading.{chain_current}
use Rattle.serial.proofs.laws.reads_are_current.Goals as goal

pub returns : goal.returns
returns c = record { current = chain_current }
