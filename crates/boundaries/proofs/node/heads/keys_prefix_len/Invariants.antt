use Rattle.std.proofs.Common.{◌≤◌, take, All}
use Rattle.arena.specs.Arena.{key_at}
use Rattle.boundaries.specs.Node.{keys_of}
use Rattle.boundaries.proofs.HeadChanges.{BeginsAsFirst}
use Rattle.boundaries.proofs.node.heads.keys_prefix_len.Given as goal

abbrev pub invariant-loop-entry : goal.invariant-loop-entry
invariant-loop-entry l =
    record {
      most : l.count ≤ 65535;
      common : All (BeginsAsFirst (key_at l.keys) l.fn.key l.count) (take l.entry-index (keys_of l.entries));
    }
