use Rattle.std.proofs.Common.{◌≡◌, ◌≤◌, ◌-◌, length, take}
use Rattle.std.specs.Io.KnownBytes.{Appends}
use Rattle.replay_output.specs.Packed.{text_of_units}
use Rattle.replay_output.proofs.line.packed.unit_text.print_units.Given as goal

abbrev pub invariant-loop-printed : goal.invariant-loop-printed
invariant-loop-printed g l = record {
  inside : l.printed ≤ length l.units;
  entire : Appends (g.W.Sink.given l.initial.out) (g.W.Sink.given l.out) (text_of_units (take l.printed l.units));
  ok : g.W.Sink.failures l.out ≡ g.W.Sink.failures l.initial.out;
}

abbrev pub decreases-loop-printed : goal.decreases-loop-printed
decreases-loop-printed g l = length l.units - l.printed
