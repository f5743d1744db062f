use Rattle.std.proofs.Common.{codes, refl}
use Rattle.batches_tasks.proofs.failure.fail.Goals as goal

pub report_line-requires-in-Err : goal.report_line-requires-in-Err
report_line-requires-in-Err g c = record { line = (codes "batches: memory was refused", refl) }
