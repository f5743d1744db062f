use Rattle.std.proofs.Common.{length, sym, ◌∙◌, ap, length-take-le, rules}
use Rattle.std.proofs.lemmas.List.Sorted.{IsPartitionPoint-from_clause}
use Rattle.boundaries.proofs.Words.{is_below}
use Rattle.boundaries.specs.declared.entry.NodeEntry.{NodeEntry}
use Rattle.boundaries.proofs.callers.Partitions.{partitioned, parted_at}
use Rattle.boundaries.proofs.node.lower_bound.lower_bound.Goals as goal

pub returns : goal.returns
returns c =
    let p = λ (e : NodeEntry). is_below c.args.keys.now c.args.bound e.key in
    let es = c.args.entries.now in
    let point = IsPartitionPoint-from_clause p es _ c.partition_point.ensures.partitioned
    (partitioned p es c.requires.partitioned) (λ a r q k. search rules) in
    let parts = parted_at p es _ c.partition_point.ensures.bound point in
    let count = sym (length-take-le _ es c.partition_point.ensures.bound) ∙ ap length parts.0 in
    search (rules, c.partition_point.ensures.bound, count)
