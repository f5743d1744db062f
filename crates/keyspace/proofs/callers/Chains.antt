-- Lemmas for callers: a chain with one batch more, a run in which nothing waits, and the laws of runs.
pub use Rattle.keyspace.proofs.Chaining.{version_of-more, writes-more}
pub use Rattle.keyspace.proofs.Waiting.{run_quiet, next_due_leaves}
pub use Rattle.keyspace.proofs.Answered.{each_is_answered}
pub use Rattle.keyspace.proofs.Limits.{limits}
