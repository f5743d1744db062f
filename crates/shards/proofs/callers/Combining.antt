-- Lemmas for callers that combine replies of shards one by one.
pub use Rattle.shards.proofs.Leasts.{take_next, last_or_before, IsLeastSoFar, least_none, least_more, least_all}
pub use Rattle.shards.proofs.Reports.{IsUnion, union_none, union_more, reported, no_report}
