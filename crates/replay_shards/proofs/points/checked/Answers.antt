use Rattle.std.proofs.Common.{Err, ap, ◌∙◌, arith}
use Rattle.replay_shards.proofs.Lines.{fall_within}
use Rattle.replay_shards.proofs.points.checked.Goals as goal

pub overflow_add-result : goal.overflow_add-result
overflow_add-result c =
    let index = c.in-Err-NotRising.index in
    let first = ((c.checked.ensures.not_rising index).0 (c.in-Err-NotRising.is ∙ ap Err c.in-Err-NotRising.field-0-is)).1 in
    let within = fall_within c.args.points.items index first in
    omega (arith, within, c.args.points.ok.0)
