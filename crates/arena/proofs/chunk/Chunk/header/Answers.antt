use Rattle.std.proofs.Common.{refl, sym, ap, ◌∙◌, option_map, arith}
use Rattle.std.proofs.lemmas.Option.{slice_get_read}
use Rattle.std.specs.Option.{option_and_then}
use Rattle.arena.specs.Entry.{held}
use Rattle.arena.proofs.Chunks.{live_at}
use Rattle.arena.proofs.chunk.Chunk.header.Goals as goal

pub index-requires : goal.index-requires
index-requires g c =
    let live = live_at c.self.inside.lengths.items c.self.inside.headers.items c.self.inside.size c.self.inside.width
    c.self.inside.bytes.items c.args.index (rw (← c.self.view_is) at c.requires.live) in
    omega (arith, live.in_headers)

pub returns : goal.returns
returns g c = record {
  header =
      let live = live_at c.self.inside.lengths.items c.self.inside.headers.items c.self.inside.size c.self.inside.width
      c.self.inside.bytes.items c.args.index (rw (← c.self.view_is) at c.requires.live) in
      rw (← c.self.view_is) (ap (λ o. option_map (λ r. r.header) (option_and_then held o)) live.cell
      ∙ sym live.header_at
      ∙ slice_get_read c.self.inside.headers.items _ c.args.index c.index.result.now refl live.in_headers
      c.index.ensures);
}
