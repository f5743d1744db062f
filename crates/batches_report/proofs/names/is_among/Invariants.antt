use Rattle.std.proofs.Common.{◌≡◌, false, map, take, string_bytes}
use Rattle.batches_report.specs.Names.{is_among}
use Rattle.batches_report.proofs.names.is_among.Given as goal

abbrev pub invariant-loop-other : goal.invariant-loop-other
invariant-loop-other l = is_among (map string_bytes (take l.other-index l.names)) l.name ≡ false
