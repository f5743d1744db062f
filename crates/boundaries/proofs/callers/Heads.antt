-- Lemmas for callers: what nodes know of the bytes of keys.
pub use Rattle.boundaries.proofs.Headed.{all_known, headed_kept}
