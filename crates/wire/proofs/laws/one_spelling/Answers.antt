use Rattle.std.proofs.Common.{◌∙◌, sym}
use Rattle.wire.proofs.BatchFrames.{reported_again}
use Rattle.wire.proofs.OneSpelling.{one_batch, no_batch_fault, one_reply, no_reply_fault, kinds_apart}
use Rattle.wire.proofs.laws.one_spelling.Goals as goal

pub returns : goal.returns
returns c = record {
  batches = one_batch;
  batch_text = λ v x y a p q. p.text ∙ sym q.text;
  batch_read = no_batch_fault;
  batch_of_tables = λ v x s a p. reported_again v x s a p;
  replies = one_reply;
  reply_text = λ x y a p q. p.text ∙ sym q.text;
  reply_read = no_reply_fault;
  kinds = kinds_apart;
}
