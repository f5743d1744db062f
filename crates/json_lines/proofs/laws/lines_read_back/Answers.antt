use Rattle.json_lines.proofs.ReadBack.{batch_line_again}
use Rattle.json_lines.proofs.ReplyBack.{reply_line_again}
use Rattle.json_lines.proofs.laws.lines_read_back.Goals as goal

pub returns-clause-batches : goal.returns-clause-batches
returns-clause-batches c = batch_line_again

pub returns-clause-replies : goal.returns-clause-replies
returns-clause-replies c = reply_line_again
