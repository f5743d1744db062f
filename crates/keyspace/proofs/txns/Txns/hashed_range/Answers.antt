use Rattle.std.proofs.Common.{List, sym, ap, ◌∙◌}
use Rattle.std.specs.Prelude.{slice_get}
use Rattle.keys.specs.declared.range.Range.{Range}
use Rattle.keyspace.proofs.txns.Txns.hashed_range.Goals as goal

pub new-requires : goal.new-requires
new-requires c = record {
  hash = c.hash.ensures.hash c.get.result
      (ap (λ (ranges : List Range). slice_get ranges c.args.index) (sym c.ranges-2.ensures.ranges) ∙ c.get.ensures.range);
}
