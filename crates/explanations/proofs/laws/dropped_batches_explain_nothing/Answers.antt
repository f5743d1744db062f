use Rattle.explanations.proofs.Explaining.{dropped_explain_nothing}
use Rattle.explanations.proofs.laws.dropped_batches_explain_nothing.Goals as goal

pub returns : goal.returns
returns c = record { nothing = dropped_explain_nothing }
