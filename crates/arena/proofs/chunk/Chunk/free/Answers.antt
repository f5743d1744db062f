use Rattle.std.proofs.Common.{ap, arith}
use Rattle.arena.proofs.Chunks.{live_at, IsChunk-freed, slots_in-freed}
use Rattle.arena.proofs.chunk.Chunk.free.Goals as goal

pub index_mut-requires : goal.index_mut-requires
index_mut-requires g c =
    let live = live_at c.self.inside.lengths.items c.self.inside.headers.items c.self.inside.size c.self.inside.width
    c.self.inside.bytes.items c.args.index (rw (← c.self.view_is) at c.requires.live) in
    omega (arith, live.in_lengths)

pub invariant_of-self : goal.invariant_of-self
invariant_of-self g c =
    let live = live_at c.self.inside.lengths.items c.self.inside.headers.items c.self.inside.size c.self.inside.width
    c.self.inside.bytes.items c.args.index (rw (← c.self.view_is) at c.requires.live) in
    IsChunk-freed _ _ _ _ _ _ _ _ c.args.index c.self.invariant live.in_lengths

pub returns : goal.returns
returns g c = record {
  freed =
      let live = live_at c.self.inside.lengths.items c.self.inside.headers.items c.self.inside.size c.self.inside.width
      c.self.inside.bytes.items c.args.index (rw (← c.self.view_is) at c.requires.live) in
      rw (← c.self.view_is)
      (ap (λ cells. record { size = c.self.inside.size; cells = cells })
      (slots_in-freed c.self.inside.lengths.items c.self.inside.headers.items c.self.inside.size
      c.self.inside.width c.self.inside.bytes.items c.args.index c.self.invariant.paired live.in_lengths));
}
