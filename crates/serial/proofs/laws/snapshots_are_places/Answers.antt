use Rattle.serial.proofs.Places.{chain_places}
use Rattle.serial.proofs.laws.snapshots_are_places.Goals as goal

pub returns : goal.returns
returns c = record { places = chain_places }
