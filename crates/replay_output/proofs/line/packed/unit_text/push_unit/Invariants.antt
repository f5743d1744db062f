use Rattle.std.proofs.Common.{◌≡◌, ◌+◌, ◌*◌, ◌≤◌, ◌++◌}
use Rattle.std.specs.List.{repeat}
use Rattle.arrayvec.specs.ArrayVec.{array_vec_len}
use Rattle.replay_output.specs.declared.line.packed.word.TheConstants.{LONGEST_WORD}
use Rattle.replay_output.proofs.line.packed.unit_text.push_unit.Given as goal

abbrev pub invariant-loop : goal.invariant-loop
invariant-loop l = record {
  text : l.text.items ≡ l.initial.text.items ++ repeat l.counter l.word;
  room : array_vec_len l.text ≤ array_vec_len l.initial.text + l.counter * LONGEST_WORD;
}
