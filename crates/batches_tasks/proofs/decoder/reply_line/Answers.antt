use Rattle.std.proofs.Common.{ℕ, List, [], ◌∷◌, ◌++◌, ap, ◌∙◌}
use Rattle.batches_tasks.proofs.decoder.reply_line.Goals as goal

pub returns-clause-line : goal.returns-clause-line
returns-clause-line c = (
  c.in_ok-reply.reply,
  c.in_ok-reply.ensures.reply,
  c.in_ok-push.ensures.items ∙ ap (λ (t : List ℕ). t ++ 10 ∷ []) c.in_ok-line.ensures.text,
)
