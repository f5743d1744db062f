use Rattle.batches_tasks.proofs.callers.Reporting.{line_after}
use Rattle.batches_program.proofs.conversion.convert_file.Goals as goal

pub returns-in-Err-clause-reported : goal.returns-in-Err-clause-reported
returns-in-Err-clause-reported g c failed =
    let given = g.E.Sink.given in
    let failures = g.E.Sink.failures in
    line_after (given c.args.error.now) (given c.open_and_convert.new.error) (given c.fail_between.new.error)
    (failures c.args.error.now) (failures c.open_and_convert.new.error) (failures c.fail_between.new.error)
    c.open_and_convert.ensures.reported c.fail_between.ensures.reported
