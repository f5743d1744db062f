use Rattle.std.proofs.Common.{◌≡◌, drop, map}
use Rattle.std.specs.Prelude.{option_map}
use Rattle.std.specs.List.{list_any}
use Rattle.replay_arguments.specs.KeptInputs.{is_read}
use Rattle.replay_arguments.specs.Names.{texts}
use Rattle.replay_arguments.proofs.arguments.kept_inputs.Inputs.have_one_of.Given as goal

abbrev pub invariant-loop-name : goal.invariant-loop-name
invariant-loop-name l =
    list_any (is_read (texts l.self.files) (texts l.self.replies) (option_map (λ name. name.now) l.self.points))
    (map (λ name. name.now) (drop l.name-index l.names))
    ≡ list_any (is_read (texts l.self.files) (texts l.self.replies) (option_map (λ name. name.now) l.self.points))
    (map (λ name. name.now) l.names)
