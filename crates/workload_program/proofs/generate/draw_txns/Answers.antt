use Rattle.std.proofs.Common.{All, subst, sym, arith}
use Rattle.std.proofs.lemmas.List.Elements.{All-push}
use Rattle.workload_program.specs.Txns.{IsTxnOf}
use Rattle.workload_program.proofs.generate.draw_txns.Goals as goal

pub loop-preserved : goal.loop-preserved
loop-preserved c =
    let P = IsTxnOf c.args.shape c.args.number in (
      omega (arith, c.in_ok-push.ensures.len, c.loop.invariant.0),
      subst (All P) (sym c.in_ok-push.ensures.items)
          (All-push P c.loop.txns.items c.in_ok-draw_txn.field-0 c.loop.invariant.1 c.in_ok-draw_txn.ensures.txn),
    )
