use Rattle.std.proofs.Common.{◌<ℤ◌, ◌≤ℤ◌, arith}
use Rattle.std.proofs.lemmas.Int.{ints}
use Rattle.chain.proofs.Least.{arrival_leads_at, least_leads_at}
use Rattle.chain.proofs.gate.index_of_least.Goals as goal
use Rattle.chain.proofs.gate.index_of_least.Goals.{then-index, else-index}

pub loop-index-preserved : goal.loop-index-preserved
loop-index-preserved c =
    let x = c.index.result.now in
    let y = c.index-in-loop-index.result.now in
    elim c.if-index.branch [
      | then-index w ↦
          let below : x.1.previous <ℤ y.1.previous = grind (arith, ints) in
          rw w.least-is (arrival_leads_at _ _ _ x y
          (omega arith) c.index.ensures c.index-in-loop-index.ensures c.loop-index.invariant below)
      | else-index w ↦
          let above : y.1.previous ≤ℤ x.1.previous = grind (arith, ints) in
          rw w.least-is (least_leads_at _ _ _ x y
          (omega arith) c.index.ensures c.index-in-loop-index.ensures c.loop-index.invariant above)
    ]
