-- Lemmas for callers: the first elements of a list and the next one.
pub use Rattle.wire.proofs.Appending.{one_more}
