-- Lemmas for callers: the indices of the ranges that aren't empty, all or those chosen, and runs of ranks.
pub use Rattle.keys.proofs.Filled.{empty_if}
pub use Rattle.keys.proofs.Chosen.{chosen_in_order, chosen_filled, order_within, chosen_among, among_within}
pub use Rattle.keys.proofs.Runs.{before_from_rank, filled_from_gap, runs_are_within}
