use Rattle.std.proofs.Common.{◌≡◌, length, replicate, take, true}
use Rattle.conflict.proofs.writes.mark_all.Given as goal

abbrev pub invariant-loop-mark : goal.invariant-loop-mark
invariant-loop-mark l = record {
  size : length l.mark-items ≡ length l.fn.marks;
  set : take l.mark-index l.mark-items ≡ replicate l.mark-index true;
}
