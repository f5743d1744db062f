use Rattle.std.proofs.Common.{◌≡◌, ◌*◌, ◌<◌, length, arith}
use Rattle.arena.proofs.Growing.{IsKept-grown, records_of-push}
use Rattle.arena.proofs.Giving.{spare_grown, spare_same}
use Rattle.arena.proofs.arena.Arena.grow.Goals as goal

pub add-requires-clause-total : goal.add-requires-clause-total
add-requires-clause-total g c =
    let list = c.self.invariant.lists c.args.size c.requires.size in
    omega (arith, list.bounded, c.len-number.ensures)

pub invariant_of-self-2 : goal.invariant_of-self-2
invariant_of-self-2 g c =
    let number : c.len-number.result ≡ length c.self.inside.chunks.items = omega arith in
    let room : length c.self.inside.chunks.items < 8388608 = omega arith in
    rw (
      c.push_reserved.ensures.items,
      c.reserve.ensures.items,
      c.in_ok-add.ensures.added,
      number,
      c.slots_of.ensures.slots,
    )
    (IsKept-grown _ _ _ c.args.size _ c.in_ok-chunk.chunk c.self.invariant room c.requires.size
    c.in_ok-chunk.ensures.size (rw (← c.slots_of.ensures.slots) c.slots_of.ensures.at_most)
    c.in_ok-chunk.ensures.fresh)

pub returns-clause-records : goal.returns-clause-records
returns-clause-records g c =
    rw (← c.self.view_is, c.push_reserved.ensures.items, c.reserve.ensures.items)
    (records_of-push c.self.inside.chunks.items c.in_ok-chunk.chunk _ c.in_ok-chunk.ensures.fresh)

pub returns-clause-spare : goal.returns-clause-spare
returns-clause-spare g c =
    let within : c.args.size < length c.self.inside.spares =
    omega (arith, c.self.invariant.ten, c.requires.size) in
    rw (← c.self.view_is, c.in_ok-add.ensures.added, c.slots_of.ensures.slots)
    (spare_grown c.self.inside.spares c.args.size _ _ within)

pub returns-clause-more : goal.returns-clause-more
returns-clause-more g c =
    let within : c.args.size < length c.self.inside.spares =
    omega (arith, c.self.invariant.ten, c.requires.size) in
    rw (← c.self.view_is, c.in_ok-add.ensures.added)
    (omega (
      arith,
      spare_grown c.self.inside.spares c.args.size (c.len-number.result * 512) c.slots_of.result within,
      c.slots_of.ensures.some,
    ))

pub returns-clause-other_sizes : goal.returns-clause-other_sizes
returns-clause-other_sizes g c = λ s other.
    rw (← c.self.view_is, c.in_ok-add.ensures.added) (spare_same c.self.inside.spares c.args.size s _ other)
