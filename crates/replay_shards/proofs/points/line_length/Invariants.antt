use Rattle.std.specs.Prelude.{◌≢◌, take, All}
use Rattle.replay_shards.proofs.points.line_length.Given as goal

abbrev pub invariant-loop-index : goal.invariant-loop-index
invariant-loop-index l = All (λ x. x ≢ 10) (take l.index l.bytes)
