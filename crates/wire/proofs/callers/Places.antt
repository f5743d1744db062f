-- Lemmas for callers: places of a report rise.
pub use Rattle.wire.proofs.PlaceLists.{RiseFrom, are_places, rise}
