use Rattle.std.proofs.Common.{set, ap, ◌∙◌, arith}
use Rattle.arena.specs.Entry.{Live}
use Rattle.arena.proofs.Chunks.{slot_at, key_fits, AreMade-slots, IsChunk-filled, slots_in-filled}
use Rattle.arena.proofs.chunk.Chunk.fill.Goals as goal

pub overflow_mul-index : goal.overflow_mul-index
overflow_mul-index g c =
    let slot =
    slot_at _ _ _ _ _ _ _ _ c.args.index c.self.invariant (rw (← c.self.view_is) at c.requires.within) in
    omega (arith, slot.bytes)

pub write_key-requires : goal.write_key-requires
write_key-requires g c =
    let slot =
    slot_at _ _ _ _ _ _ _ _ c.args.index c.self.invariant (rw (← c.self.view_is) at c.requires.within) in
    let fits = rw (← c.self.view_is) at c.requires.fits in
    record {
      room = c.self.invariant.bytes_room;
      within = key_fits _ _ _ _ _ _ _ _ c.args.index c.args.key.now c.self.invariant slot fits;
    }

pub add_free-requires-clause-lengths_room : goal.add_free-requires-clause-lengths_room
add_free-requires-clause-lengths_room g c =
    let slot =
    slot_at _ _ _ _ _ _ _ _ c.args.index c.self.invariant (rw (← c.self.view_is) at c.requires.within) in
    omega (arith, slot.index, c.self.invariant.lengths_room)

pub add_free-requires-clause-headers_room : goal.add_free-requires-clause-headers_room
add_free-requires-clause-headers_room g c =
    let slot =
    slot_at _ _ _ _ _ _ _ _ c.args.index c.self.invariant (rw (← c.self.view_is) at c.requires.within) in
    omega (arith, slot.index, c.self.invariant.headers_room)

pub invariant_of-self : goal.invariant_of-self
invariant_of-self g c =
    let within = rw (← c.self.view_is) at c.requires.within in
    let fits = rw (← c.self.view_is) at c.requires.fits in
    let now = c.add_free.ensures in
    let made =
    AreMade-slots _ c.add_free.new.lengths.items _ c.add_free.new.headers.items _ _ _ _ _ _ _ _ _ c.args.index
    c.self.invariant within now.paired now.free now.few now.lengths_capacity now.headers_capacity
    c.write_key.ensures.capacity in
    rw c.write_key.ensures.bytes
    (IsChunk-filled _ _ _ _ _ _ _ _ c.args.index c.args.header c.args.key.now made.chunk now.made fits)

pub returns : goal.returns
returns g c = record {
  filled =
      let within = rw (← c.self.view_is) at c.requires.within in
      let fits = rw (← c.self.view_is) at c.requires.fits in
      let now = c.add_free.ensures in
      let made =
      AreMade-slots _ c.add_free.new.lengths.items _ c.add_free.new.headers.items _ _ _ _ _ _ _ _ _ c.args.index
      c.self.invariant within now.paired now.free now.few now.lengths_capacity now.headers_capacity
      c.write_key.ensures.capacity in
      rw (← c.self.view_is, c.write_key.ensures.bytes)
      (ap (λ cells. record { size = c.self.inside.size; cells = cells })
      (slots_in-filled _ _ _ _ _ _ _ _ c.args.index c.args.header c.args.key.now made.chunk now.made fits
      ∙ ap (λ cells. set cells c.args.index (Live (record { header = c.args.header; key = c.args.key.now })))
      made.slots));
}
