use Rattle.std.proofs.Common.{◌≡◌, ap, ◌∙◌, rules}
use Rattle.wire.specs.Fields.{batch_fields}
use Rattle.json_lines.specs.Batches.{batch_of}
use Rattle.json_lines.specs.Written.{batch_line}
use Rattle.json_lines.proofs.ReadBack.{batch_line_again}
use Rattle.json_lines.proofs.batch_writer.write_batch.Goals as goal

pub returns-clause-reads_back : goal.returns-clause-reads_back
returns-clause-reads_back c =
    let text : c.into_inner.result.items ≡ batch_line (batch_fields c.args.batch.now) = search rules in
    ap batch_of text ∙ batch_line_again (batch_fields c.args.batch.now) c.in_ok-put_batch.ensures.holds
