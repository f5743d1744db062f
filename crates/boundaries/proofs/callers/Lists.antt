-- Lemmas for callers: an element between those before and after it, and the elements from the last one that passes a test.
pub use Rattle.boundaries.proofs.Ways.{around_element}
pub use Rattle.boundaries.proofs.FromLast.{last_and_between}
