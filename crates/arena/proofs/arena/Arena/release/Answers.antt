use Rattle.std.proofs.Common.{◌≡◌, ◌≢◌, ℕ, ◌+◌, ◌<◌, length, set, slice_index, arith}
use Rattle.arena.specs.Spares.{spare_at, counts_of, with_slot}
use Rattle.arena.proofs.Records.{get-freed_other, some_record}
use Rattle.arena.proofs.Reading.{in_chunks, IsRead-within}
use Rattle.arena.proofs.Releasing.{
  IsReleased-read,
  released_room,
  released_kept,
  released_records,
  released_key,
}
use Rattle.arena.proofs.Giving.{spare_more, spare_same}
use Rattle.arena.proofs.arena.Arena.release.Goals as goal

pub index_mut-chunk-requires : goal.index_mut-chunk-requires
index_mut-chunk-requires g c =
    omega (arith, in_chunks c.self.inside.chunks.items c.args.slot (rw (← c.self.view_is) at c.requires.live))

pub free-requires : goal.free-requires
free-requires g c = record {
  live =
      let live = rw (← c.self.view_is) at c.requires.live in
      let read =
      IsRead-within c.self.inside.chunks.items c.args.slot _ _ _
      (in_chunks c.self.inside.chunks.items c.args.slot live) c.chunk.ensures.chunk c.index.ensures.index
      c.index_mut-chunk.ensures.value in
      rw read.has at live;
}

pub put-requires-clause-room : goal.put-requires-clause-room
put-requires-clause-room g c =
    let live = rw (← c.self.view_is) at c.requires.live in
    let out =
    IsReleased-read c.self.inside.chunks.items c.args.slot _ _ live c.chunk.ensures.chunk
    c.index_mut-chunk.ensures.value in
    released_room _ _ _ c.size-size.result c.args.slot _ c.self.invariant out c.size-size.ensures.in_range
    c.size-size.ensures.size

pub overflow_sub-self : goal.overflow_sub-self
overflow_sub-self g c =
    let live = rw (← c.self.view_is) at c.requires.live in
    omega (arith, c.self.invariant.counted, some_record _ c.args.slot live)

pub invariant_of-self : goal.invariant_of-self
invariant_of-self g c =
    let live = rw (← c.self.view_is) at c.requires.live in
    let out =
    IsReleased-read c.self.inside.chunks.items c.args.slot _ _ live c.chunk.ensures.chunk
    c.index_mut-chunk.ensures.value in
    rw (c.put.ensures.put, c.free.ensures.freed, c.index.ensures.index, c.chunk.ensures.chunk)
    (released_kept _ _ _ c.size-size.result c.args.slot _ c.self.invariant out c.size-size.ensures.in_range
    c.size-size.ensures.size)

pub returns-clause-released : goal.returns-clause-released
returns-clause-released g c =
    let live = rw (← c.self.view_is) at c.requires.live in
    let out =
    IsReleased-read c.self.inside.chunks.items c.args.slot _ _ live c.chunk.ensures.chunk
    c.index_mut-chunk.ensures.value in
    rw (
      ← c.self.view_is,
      c.free.ensures.freed,
      c.index.ensures.index,
      c.chunk.ensures.chunk,
    ) (released_records _ c.args.slot _ out)

pub returns-clause-others : goal.returns-clause-others
returns-clause-others g c = λ other apart.
    let live = rw (← c.self.view_is) at c.requires.live in
    let out =
    IsReleased-read c.self.inside.chunks.items c.args.slot _ _ live c.chunk.ensures.chunk
    c.index_mut-chunk.ensures.value in
    rw (
      ← c.self.view_is,
      c.free.ensures.freed,
      c.index.ensures.index,
      c.chunk.ensures.chunk,
      released_records _ c.args.slot _ out,
    ) (get-freed_other _ c.args.slot other apart)

pub returns-clause-spare : goal.returns-clause-spare
returns-clause-spare g c =
    let live = rw (← c.self.view_is) at c.requires.live in
    let out =
    IsReleased-read c.self.inside.chunks.items c.args.slot _ _ live c.chunk.ensures.chunk
    c.index_mut-chunk.ensures.value in
    let size = c.size-size.result in
    let within : size < length c.self.inside.spares =
    omega (arith, c.self.invariant.ten, c.size-size.ensures.in_range) in
    let spares = set c.self.inside.spares size (with_slot (spare_at c.self.inside.spares size) c.args.slot) in
    rw (← c.self.view_is, c.put.ensures.put)
    (released_key _ _ _ size c.args.slot _
    (λ n. slice_index (counts_of spares) n
    ≡ slice_index (counts_of c.self.inside.spares) n + 1) c.self.invariant out c.size-size.ensures.size
    (spare_more _ size c.args.slot within))

pub returns-clause-other_sizes : goal.returns-clause-other_sizes
returns-clause-other_sizes g c =
    let live = rw (← c.self.view_is) at c.requires.live in
    let out =
    IsReleased-read c.self.inside.chunks.items c.args.slot _ _ live c.chunk.ensures.chunk
    c.index_mut-chunk.ensures.value in
    let size = c.size-size.result in
    let spares = set c.self.inside.spares size (with_slot (spare_at c.self.inside.spares size) c.args.slot) in
    rw (← c.self.view_is, c.put.ensures.put)
    (released_key _ _ _ size c.args.slot _ (λ n. (s : ℕ) → s ≢ n
    → slice_index (counts_of spares) s
    ≡ slice_index (counts_of c.self.inside.spares) s) c.self.invariant out c.size-size.ensures.size
    (λ s other. spare_same c.self.inside.spares size s _ other))
