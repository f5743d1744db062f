use Rattle.std.proofs.Common.{ap, ◌∙◌, option_map, arith}
use Rattle.arena.proofs.Reading.{in_chunks, IsRead-within}
use Rattle.arena.proofs.arena.Arena.key.Goals as goal

pub index-chunk-requires : goal.index-chunk-requires
index-chunk-requires g c =
    omega (arith, in_chunks c.self.inside.chunks.items c.args.slot (rw (← c.self.view_is) at c.requires.live))

pub key-requires : goal.key-requires
key-requires g c = record {
  live =
      let live = rw (← c.self.view_is) at c.requires.live in
      let read =
      IsRead-within c.self.inside.chunks.items c.args.slot _ _ _
      (in_chunks c.self.inside.chunks.items c.args.slot live) c.chunk.ensures.chunk c.index.ensures.index
      c.index-chunk.ensures in
      rw read.has at live;
}

pub returns : goal.returns
returns g c = record {
  key =
      let live = rw (← c.self.view_is) at c.requires.live in
      let read =
      IsRead-within c.self.inside.chunks.items c.args.slot _ _ _
      (in_chunks c.self.inside.chunks.items c.args.slot live) c.chunk.ensures.chunk c.index.ensures.index
      c.index-chunk.ensures in
      rw (← c.self.view_is) (ap (option_map (λ r. r.key)) read.has ∙ c.key.ensures.key);
}
