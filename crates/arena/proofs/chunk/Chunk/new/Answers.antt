use Rattle.std.proofs.Common.{◌≡◌, ◌*◌}
use Rattle.arena.specs.Arena.{slots_of}
use Rattle.arena.proofs.Chunks.{IsChunk-new, IsFresh-slots}
use Rattle.arena.proofs.chunk.Chunk.new.Goals as goal

pub invariant_of-result : goal.invariant_of-result
invariant_of-result g c =
    let slots = c.slots_of-count.ensures.slots in
    let width = c.width_of-width.ensures.width in
    let shared : slots_of c.args.size * c.width_of-width.result ≡ 16384 =
    rw (← slots, width) c.slots_of-count.ensures.bytes in
    IsChunk-new _ _ _ _ _ _ _ _ c.in_ok-lengths.ensures.items c.in_ok-headers.ensures.items c.requires.size width
    (rw (← slots) c.in_ok-lengths.ensures.capacity) (rw (← slots) c.in_ok-headers.ensures.capacity)
    c.in_ok-bytes.ensures.capacity shared c.in_ok-bytes.ensures.items

pub returns-clause-fresh : goal.returns-clause-fresh
returns-clause-fresh g c = IsFresh-slots _ _ _ _ _ c.in_ok-lengths.ensures.items
