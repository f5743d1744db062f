use Rattle.serial.proofs.Running.{current_invariants}
use Rattle.serial.proofs.laws.invariants_hold.Goals as goal

pub returns : goal.returns
returns c = record { invariants = current_invariants }
