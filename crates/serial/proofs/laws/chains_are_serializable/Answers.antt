use Rattle.serial.proofs.EntireChain.{chain_serializable}
use Rattle.serial.proofs.laws.chains_are_serializable.Goals as goal

pub returns : goal.returns
returns c = record { chains = chain_serializable }
