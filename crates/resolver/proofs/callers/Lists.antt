-- Lemmas for callers: the elements of a list, before and after a write.
pub use Rattle.resolver.proofs.Settling.{slice_get-set_same, slice_get-set_other, written_back}
