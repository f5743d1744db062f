-- Lemmas for callers: elements at an index, reads of a key, and clips element by element.
pub use Rattle.serial.proofs.Holding.{is_above, written_above, low_from_current, none_from_current}
pub use Rattle.serial.proofs.Reading.{split_at, some_at, the_value, at_index}
pub use Rattle.serial.proofs.Clipping.{partner}
pub use Rattle.serial.proofs.ByShards.{none_before_empty, some_shard}
