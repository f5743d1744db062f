use Rattle.serial.proofs.Following.{chain_real_time}
use Rattle.serial.proofs.laws.real_time.Goals as goal

pub returns : goal.returns
returns c = record { follows = chain_real_time }
