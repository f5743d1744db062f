use Rattle.std.proofs.Common.{◌≡◌, ℕ, ◌++◌, take, codes}
use Rattle.std.specs.List.{flat_map}
use Rattle.std.specs.Fmt.{decimal}
use Rattle.replay_output.proofs.line.print_conflict.Given as goal

abbrev pub invariant-loop-place : goal.invariant-loop-place
invariant-loop-place l =
    l.text ≡ l.initial.text ++ flat_map (λ (place : ℕ). codes "," ++ decimal place) (take l.place-index l.rest)
