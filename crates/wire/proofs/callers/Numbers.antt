-- Lemmas for callers: what tests of numbers show.
pub use Rattle.wire.proofs.Again.{at_least}
