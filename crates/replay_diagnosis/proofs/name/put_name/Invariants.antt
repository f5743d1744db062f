use Rattle.std.proofs.Common.{◌≡◌, ◌++◌, take}
use Rattle.replay_diagnosis.specs.Remedy.{shown_name}
use Rattle.replay_diagnosis.proofs.name.put_name.Given as goal

abbrev pub invariant-loop-byte : goal.invariant-loop-byte
invariant-loop-byte l = l.out.items ≡ l.fn.out.items ++ shown_name (take l.byte-index l.name)
