use Rattle.std.proofs.Common.{◌≡◌, ap, ◌∙◌, rules}
use Rattle.wire.specs.Fields.{reply_fields}
use Rattle.json_lines.specs.Replies.{reply_of}
use Rattle.json_lines.specs.Written.{reply_line}
use Rattle.json_lines.proofs.ReplyBack.{reply_line_again}
use Rattle.json_lines.proofs.reply_writer.write_reply.Goals as goal

pub returns-clause-reads_back : goal.returns-clause-reads_back
returns-clause-reads_back c =
    let text : c.into_inner.result.items ≡ reply_line (reply_fields c.args.reply.now) = search rules in
    ap reply_of text ∙ reply_line_again (reply_fields c.args.reply.now) c.in_ok-put_reply.ensures.holds
