use Rattle.std.proofs.Common.{◌∙◌, arith}
use Rattle.replay_workers.proofs.Reporting.{all_asked, asked_also, none_asked}
use Rattle.replay_workers.proofs.reporting_batches.ask_all.Goals as goal

pub loop-row-init : goal.loop-row-init
loop-row-init c = none_asked c.args.rows.now

pub loop-row-preserved : goal.loop-row-preserved
loop-row-preserved c =
    asked_also c.loop-row.row-index c.args.rows.now c.loop-row.rows _ (omega (arith, c.loop-row-test.true)) c.loop-row.invariant

pub returns : goal.returns
returns c = record {
  asking = c.loop-row.invariant ∙ all_asked c.loop-row.row-index c.args.rows.now (omega (arith, c.loop-row-test.false));
}
