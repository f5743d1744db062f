use Rattle.std.proofs.Common.{take}
use Rattle.std.specs.Io.KnownBytes.{Appends}
use Rattle.checking.specs.Text.{difference_lines}
use Rattle.checking.proofs.text.write_differences.Given as goal

abbrev pub invariant-loop-difference : goal.invariant-loop-difference
invariant-loop-difference g l =
    Appends (g.W.Write.contents l.initial.out) (g.W.Write.contents l.out)
    (difference_lines l.proxy (take l.difference-index l.differences))
