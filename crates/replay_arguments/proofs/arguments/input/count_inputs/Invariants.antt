use Rattle.std.proofs.Common.{◌≡◌, ◌+◌, ◌≤◌, drop, map}
use Rattle.replay_arguments.specs.Arguments.{count_inputs}
use Rattle.replay_arguments.proofs.arguments.input.count_inputs.Given as goal

abbrev pub invariant-loop-name : goal.invariant-loop-name
invariant-loop-name l = record {
  counted : l.count + count_inputs (map (λ name. name.now) (drop l.name-index l.names))
      ≡ count_inputs (map (λ name. name.now) l.names);
  few : l.count ≤ l.name-index;
}
