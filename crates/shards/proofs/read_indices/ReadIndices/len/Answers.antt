use Rattle.std.proofs.Common.{arith, ap, length}
use Rattle.shards.proofs.IndexLists.{length-parts}
use Rattle.shards.proofs.read_indices.ReadIndices.len.Goals as goal

pub returns : goal.returns
returns c =
    let inside = c.self.inside in
    record { count = omega (arith, inside.ends.ok.0, ap length c.self.view_is, length-parts 0 inside.indices.items inside.ends.items) }
