use Rattle.shards.proofs.Cutting.{cut_lies}
use Rattle.shards.proofs.shard_bounds.Bounds.clip.Goals as goal

pub returns : goal.returns
returns c = record {
  clip = λ shard m buffer range has within reported is.
      let lies = cut_lies shard m range c.args.cut c.args.self.now c.args.span.now buffer c.pick-begin.result c.pick-end.result has within
      reported is c.pick-begin.ensures.picked c.pick-end.ensures.picked in (
        record { begin = lies.0.within; end = lies.1.within },
        λ i. record { begin = lies.0.bytes i; end = lies.1.bytes i },
      );
}
