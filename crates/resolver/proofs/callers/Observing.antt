-- Lemmas for callers: what an observer has seen that has seen all of a log.
pub use Rattle.resolver.proofs.Observing.{seen_log, seen_more}
