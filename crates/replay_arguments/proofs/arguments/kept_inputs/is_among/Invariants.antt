use Rattle.std.proofs.Common.{◌≡◌, drop, map}
use Rattle.replay_arguments.specs.KeptInputs.{is_among}
use Rattle.replay_arguments.proofs.arguments.kept_inputs.is_among.Given as goal

abbrev pub invariant-loop-other : goal.invariant-loop-other
invariant-loop-other l =
    is_among l.name (map (λ name. name.now) (drop l.other-index l.names)) ≡ is_among l.name (map (λ name. name.now) l.names)
