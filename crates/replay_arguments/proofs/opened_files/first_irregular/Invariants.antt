use Rattle.std.proofs.Common.{map, take, All}
use Rattle.replay_arguments.proofs.opened_files.first_irregular.Given as goal

abbrev pub invariant-loop-proxy : goal.invariant-loop-proxy
invariant-loop-proxy g l = All (g.F.Files.is_regular l.fn.files) (take l.proxy (map (λ name. name.now) l.fn.names))
