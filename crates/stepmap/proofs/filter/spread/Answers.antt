use Rattle.std.proofs.Common.{◌≡◌, ◌+◌, ◌*◌, ◌-◌, get_or, set, ◌∙◌, ap, arith}
use Rattle.std.specs.Prelude.{pos}
use Rattle.stepmap.specs.declared.filter.cell.Cell.{Cell}
use Rattle.stepmap.proofs.Spreading.{spread_from, spread_next}
use Rattle.stepmap.proofs.filter.spread.Goals as goal

pub loop-index-preserved : goal.loop-index-preserved
loop-index-preserved c =
    let old = c.args.cells.now in
    let i = c.loop-index.index - 1 in
    let d : Cell = record { version = pos 0; others = pos 0; hash = 0; marks = 0 } in
    let next : c.loop-index.index ≡ i + 1 = omega (arith, c.loop-index-test.true) in
    let was = c.loop-index.invariant ∙ ap (λ n. spread_from old c.args.count n) next in
    let cell = get_or c.loop-index.cells i d in
    ap (λ cells. set (set cells (2 * i) cell) (2 * i + 1) cell) was
    ∙ spread_next old c.args.count i cell d c.requires.room (omega (arith, c.loop-index-test.true, c.loop-index.auto.index))
    (ap (λ cells. get_or cells i d) was)
