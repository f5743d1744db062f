use Rattle.std.proofs.Common.{refl, ap, ◌∙◌, option_map, arith}
use Rattle.arena.specs.Spares.{counts_of}
use Rattle.arena.proofs.Reading.{in_chunks, IsRead-within, Lent-read, lent_records, lent_kept}
use Rattle.arena.proofs.arena.Arena.header_mut.Goals as goal

pub index_mut-chunk-requires : goal.index_mut-chunk-requires
index_mut-chunk-requires g c =
    omega (arith, in_chunks c.self.inside.chunks.items c.args.slot (rw (← c.self.view_is) at c.requires.live))

pub header_mut-requires : goal.header_mut-requires
header_mut-requires g c = record {
  live =
      let live = rw (← c.self.view_is) at c.requires.live in
      let read =
      IsRead-within c.self.inside.chunks.items c.args.slot _ _ _
      (in_chunks c.self.inside.chunks.items c.args.slot live) c.chunk.ensures.chunk c.index.ensures.index
      c.index_mut-chunk.ensures.value in
      rw read.has at live;
}

pub invariant_of-self-lent : goal.invariant_of-self-lent
invariant_of-self-lent g c w =
    let live = rw (← c.self.view_is) at c.requires.live in
    let read =
    IsRead-within c.self.inside.chunks.items c.args.slot _ _ _
    (in_chunks c.self.inside.chunks.items c.args.slot live) c.chunk.ensures.chunk refl
    c.index_mut-chunk.ensures.value in
    rw (c.chunk.ensures.chunk, c.index.ensures.index)
    (lent_kept _ _ _ c.args.slot _ w c.self.invariant (Lent-read _ _ _ w read live))

pub returns : goal.returns
returns g c =
    let live = rw (← c.self.view_is) at c.requires.live in
    let read =
    IsRead-within c.self.inside.chunks.items c.args.slot _ _ _
    (in_chunks c.self.inside.chunks.items c.args.slot live) c.chunk.ensures.chunk refl
    c.index_mut-chunk.ensures.value in (
      (
        refl,
        λ w. rw (← c.self.view_is, c.chunk.ensures.chunk, c.index.ensures.index)
            (ap (λ records. record { records = records; spare = counts_of c.self.inside.spares })
            (lent_records _ _ _ w (Lent-read _ _ _ w read live))),
      ),
      record {
        lends = tt;
        header = rw (← c.self.view_is) (ap (option_map (λ r. r.header)) read.has
            ∙ rw c.index.ensures.index at c.header_mut.ensures.value);
      },
    )
