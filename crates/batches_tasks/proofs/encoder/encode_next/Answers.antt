use Rattle.std.proofs.Common.{refl}
use Rattle.batches_tasks.proofs.encoder.encode_next.Goals as goal

pub returns-then-length-eq0-clause-end : goal.returns-then-length-eq0-clause-end
returns-then-length-eq0-clause-end g c none = (c.in_ok-length.ensures.end c.if-length-eq0.true, refl)
