-- Lemmas for callers: a core that represents a log.
pub use Rattle.resolver.proofs.Standing.{IsIn-standing}
