use Rattle.std.proofs.Common.{◌≡◌, drop}
use Rattle.batches_tasks.specs.Lines.{is_blank}
use Rattle.batches_tasks.proofs.encoder.is_blank.Given as goal

abbrev pub invariant-loop-byte : goal.invariant-loop-byte
invariant-loop-byte l = is_blank (drop l.byte-index l.line) ≡ is_blank l.line
