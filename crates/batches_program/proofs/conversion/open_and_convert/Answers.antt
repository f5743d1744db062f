use Rattle.batches_tasks.proofs.callers.Reporting.{reports_then}
use Rattle.batches_program.proofs.conversion.open_and_convert.Goals as goal

pub returns-clause-reported : goal.returns-clause-reported
returns-clause-reported g c =
    let given = g.E.Sink.given in
    let failures = g.E.Sink.failures in
    reports_then (given c.args.error.now) (given c.convert-done.new.error) (given c.finish.new.error)
    (failures c.args.error.now) (failures c.convert-done.new.error) (failures c.finish.new.error)
    c.convert-done.ensures.reported c.finish.ensures.reported
