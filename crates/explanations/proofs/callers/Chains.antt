-- Lemmas for callers: versions rise in a chain, what the newest batch is, and what explains a conflict.
pub use Rattle.explanations.proofs.Rising.{Precedes, versions_below, newest_of-more}
pub use Rattle.explanations.proofs.Earlier.{not_equal_below}
pub use Rattle.explanations.proofs.Explaining.{explained_if_in_conflict, each_conflict_explained, dropped_explain_nothing}
