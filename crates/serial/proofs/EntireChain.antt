-- All that verdicts give a database, if versions rise and reads are current.
use Rattle.std.proofs.Common.{ℤ, List}
use Rattle.keyspace.specs.Processed.{Processed}
use Rattle.keyspace.specs.Chain.{IsChain}
use Rattle.serial.specs.Commits.{Current}
use Rattle.serial.specs.Serial.{IsSerializable}
use Rattle.serial.proofs.Reading.{chain_current}
use Rattle.serial.proofs.Isolation.{current_isolated}
use Rattle.serial.proofs.Running.{current_serializable, current_invariants}
use Rattle.serial.proofs.Versions.{VersionsRise, version_up_to}
use Rattle.serial.proofs.Places.{places}
use Rattle.serial.proofs.Following.{real_time}

pub serializable : (ps : List Processed) → VersionsRise ps → Current ps → IsSerializable ps
serializable ps rise current = record {
  isolated = current_isolated ps current;
  serial = current_serializable ps current;
  invariants = current_invariants ps current;
  snapshots = places ps rise current;
  real_time = real_time ps rise;
}

pub chain_serializable : (window : ℤ) (ps : List Processed) → IsChain window ps → IsSerializable ps
chain_serializable window ps chain = serializable ps (version_up_to window ps chain) (chain_current window ps chain)
