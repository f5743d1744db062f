-- Lemmas for callers: what tests show.
pub use Rattle.stepmap.proofs.LeftOpen.{is_false}
