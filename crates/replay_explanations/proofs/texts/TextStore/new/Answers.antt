use Rattle.replay_explanations.proofs.Keys.{none_kept}
use Rattle.replay_explanations.proofs.texts.TextStore.new.Goals as goal

pub returns : goal.returns
returns c = record { none = λ p v. none_kept c.new.result p v c.new.ensures.empty }
