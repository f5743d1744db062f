use Rattle.std.proofs.Common.{w64, take}
use Rattle.std.specs.Int.RustNames.{FitsSigned}
use Rattle.std.proofs.lemmas.List.Elements.{All-push}
use Rattle.wire.specs.Fields.{txn_fields}
use Rattle.wire.specs.Spelling.{txn_text}
use Rattle.wire.proofs.Appending.{one_more}
use Rattle.wire.proofs.Texts.{text_put}
use Rattle.wire.proofs.put.put_txns.Goals as goal

pub loop-index-preserved : goal.loop-index-preserved
loop-index-preserved c =
    let txns = c.args.txns.now in
    let i = c.loop-index.index in
    let txn = c.txn.result in (
      text_put (txn_text c.args.version) txn_fields txns i txn c.args.out.now.items c.loop-index.out.items
          c.put_txn.new.out.items c.txn.ensures.txn c.loop-index.invariant.0 c.in_ok-put_txn.ensures.text,
      rw (one_more txns i txn c.txn.ensures.txn) (All-push (λ txn. FitsSigned w64 txn.snapshot) (take i txns) txn
          c.loop-index.invariant.1 c.put_txn.ensures.fits),
    )
