-- Lemmas for callers: bytes that a writer was given in turn.
pub use Rattle.replay_output.proofs.Known.{Begins, begins_then}
