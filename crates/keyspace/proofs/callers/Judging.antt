-- Lemmas for callers: one reply alone is `Judged`, and the tests of `Judge` answer what its words say.
pub use Rattle.keyspace.proofs.Judging.{entry_same, reply_same, only_judge}
pub use Rattle.keyspace.proofs.Scans.{any_from_test, test_from_any, range_hit_from_test, test_from_range_hit}
