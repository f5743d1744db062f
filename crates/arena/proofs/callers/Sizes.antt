-- Lemmas for callers: the size class of a list has room for it.
pub use Rattle.arena.proofs.Sizes.{size_fits}
