use Rattle.std.proofs.Common.{refl, sym, ap, ◌∙◌, option_map, arith}
use Rattle.std.proofs.lemmas.Option.{slice_get_read}
use Rattle.std.specs.Option.{option_and_then}
use Rattle.arena.specs.Entry.{held}
use Rattle.arena.proofs.Chunks.{live_at, IsChunk-lent, slots_in-lent}
use Rattle.arena.proofs.chunk.Chunk.header_mut.Goals as goal

pub index_mut-requires : goal.index_mut-requires
index_mut-requires g c =
    let live = live_at c.self.inside.lengths.items c.self.inside.headers.items c.self.inside.size c.self.inside.width
    c.self.inside.bytes.items c.args.index (rw (← c.self.view_is) at c.requires.live) in
    omega (arith, live.in_headers)

pub invariant_of-self-lent : goal.invariant_of-self-lent
invariant_of-self-lent g c w =
    let live = live_at c.self.inside.lengths.items c.self.inside.headers.items c.self.inside.size c.self.inside.width
    c.self.inside.bytes.items c.args.index (rw (← c.self.view_is) at c.requires.live) in
    IsChunk-lent _ _ _ _ _ _ _ _ c.args.index w c.self.invariant live

pub returns : goal.returns
returns g c =
    let live = live_at c.self.inside.lengths.items c.self.inside.headers.items c.self.inside.size c.self.inside.width
    c.self.inside.bytes.items c.args.index (rw (← c.self.view_is) at c.requires.live) in (
      (
        refl,
        λ w. rw (← c.self.view_is) (ap (λ cells. record { size = c.self.inside.size; cells = cells })
            (slots_in-lent _ _ c.self.inside.size _ _ c.args.index w live)),
      ),
      record {
        lends = tt;
        value = rw (← c.self.view_is) (ap (λ o. option_map (λ r. r.header) (option_and_then held o)) live.cell
            ∙ sym live.header_at
            ∙ slice_get_read c.self.inside.headers.items _ c.args.index c.index_mut.result.now refl live.in_headers
            c.index_mut.ensures.value);
      },
    )
