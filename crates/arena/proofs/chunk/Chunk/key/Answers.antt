use Rattle.std.proofs.Common.{ap, ◌∙◌, option_map, arith}
use Rattle.std.proofs.lemmas.Option.{get_or_from_slice_get}
use Rattle.std.specs.Option.{option_and_then}
use Rattle.arena.specs.Entry.{held}
use Rattle.arena.proofs.Chunks.{live_at, live_within, key_inside}
use Rattle.arena.proofs.chunk.Chunk.key.Goals as goal

pub overflow_mul-index : goal.overflow_mul-index
overflow_mul-index g c =
    let live = live_at c.self.inside.lengths.items c.self.inside.headers.items c.self.inside.size c.self.inside.width
    c.self.inside.bytes.items c.args.index (rw (← c.self.view_is) at c.requires.live) in
    omega (arith, live_within _ _ _ _ _ _ _ _ c.args.index c.self.invariant live)

pub index-requires : goal.index-requires
index-requires g c =
    let live = live_at c.self.inside.lengths.items c.self.inside.headers.items c.self.inside.size c.self.inside.width
    c.self.inside.bytes.items c.args.index (rw (← c.self.view_is) at c.requires.live) in
    omega (arith, live.in_lengths)

pub part-requires : goal.part-requires
part-requires g c = record {
  within =
      let live = live_at c.self.inside.lengths.items c.self.inside.headers.items c.self.inside.size c.self.inside.width
      c.self.inside.bytes.items c.args.index (rw (← c.self.view_is) at c.requires.live) in
      let read =
      c.index.ensures
      ∙ get_or_from_slice_get c.self.inside.lengths.items c.args.index _ c.index.result.now live.length_at in
      rw (read, c.deref.ensures.value) (key_inside _ _ _ _ _ _ _ _ c.args.index c.self.invariant live);
}

pub returns : goal.returns
returns g c = record {
  key =
      let live = live_at c.self.inside.lengths.items c.self.inside.headers.items c.self.inside.size c.self.inside.width
      c.self.inside.bytes.items c.args.index (rw (← c.self.view_is) at c.requires.live) in
      let read =
      c.index.ensures
      ∙ get_or_from_slice_get c.self.inside.lengths.items c.args.index _ c.index.result.now live.length_at in
      rw (← c.self.view_is, c.part.ensures.bytes, c.deref.ensures.value, read)
      (ap (λ o. option_map (λ r. r.key) (option_and_then held o)) live.cell);
}
