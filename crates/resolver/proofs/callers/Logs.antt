-- Lemmas for callers: a log takes batches of that many proxies alone.
pub use Rattle.resolver.proofs.OnlyFrom.{none_of_others}
