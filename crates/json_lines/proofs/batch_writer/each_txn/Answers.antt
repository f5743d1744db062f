use Rattle.std.proofs.Common.{w64, take, ◌∙◌}
use Rattle.std.specs.Int.RustNames.{FitsSigned}
use Rattle.std.proofs.lemmas.List.Elements.{All-push}
use Rattle.wire.specs.Fields.{txn_fields}
use Rattle.wire.proofs.callers.Lists.{one_more}
use Rattle.json_lines.specs.Written.{txn_json}
use Rattle.json_lines.proofs.Tokens.{tokens_put}
use Rattle.json_lines.proofs.batch_writer.each_txn.Goals as goal

pub loop-index-preserved : goal.loop-index-preserved
loop-index-preserved c =
    let txns = c.args.txns.now in
    let i = c.loop-index.index in
    let txn = c.txn.result in (
      tokens_put txn_json txn_fields txns i txn c.args.writer.now.tokens c.loop-index.writer.tokens
          c.put_txn.new.writer.tokens c.txn.ensures.txn c.loop-index.invariant.0 c.in_ok-put_txn.ensures.tokens,
      c.put_txn.ensures.before ∙ c.loop-index.invariant.1,
      rw (one_more txns i txn c.txn.ensures.txn) (All-push (λ txn. FitsSigned w64 txn.snapshot) (take i txns) txn
          c.loop-index.invariant.2 c.in_ok-put_txn.ensures.fits),
    )
