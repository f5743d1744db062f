use Rattle.std.proofs.Common.{◌≡◌, ◌≤◌, ◌*◌, take}
use Rattle.arrayvec.specs.ArrayVec.{array_vec_len}
use Rattle.replay_output.specs.declared.line.packed.unit_text.TheConstants.{UNIT_ROOM}
use Rattle.replay_output.specs.Packed.{text_of_units}
use Rattle.replay_output.proofs.line.packed.unit_text.spell.Given as goal

abbrev pub invariant-loop-unit : goal.invariant-loop-unit
invariant-loop-unit l = record {
  text : l.text.items ≡ text_of_units (take l.unit-index l.units);
  room : array_vec_len l.text ≤ l.unit-index * UNIT_ROOM;
}
