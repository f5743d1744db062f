use Rattle.std.proofs.Common.{◌/◌, ◌<◌, length, sym, ap, ◌∙◌, arith}
use Rattle.std.specs.Option.{option_and_then}
use Rattle.arena.specs.Entry.{held}
use Rattle.arena.proofs.Slots.{Writes-set}
use Rattle.arena.proofs.Records.{get-records_of, records_of-put}
use Rattle.arena.proofs.Lists.{count_of}
use Rattle.arena.proofs.Keeping.{IsKept-taken}
use Rattle.arena.proofs.Growing.{in_chunk}
use Rattle.arena.proofs.Giving.{given_slot, IsTop-read, key_fits, spare_more, spare_same}
use Rattle.arena.proofs.arena.Arena.give.Goals as goal

pub take-slot-requires-clause-size : goal.take-slot-requires-clause-size
take-slot-requires-clause-size g c = (key_fits c.args.size _ c.requires.size c.requires.fits).0

pub take-slot-requires-clause-some : goal.take-slot-requires-clause-some
take-slot-requires-clause-some g c =
    let some = rw (← c.self.view_is) at c.requires.spare in
    omega (arith, some, count_of c.self.inside.spares c.args.size)

pub index_mut-chunk-requires : goal.index_mut-chunk-requires
index_mut-chunk-requires g c =
    let free =
    given_slot _ _ _ _ c.args.size c.take-slot.result c.self.invariant
    (key_fits c.args.size _ c.requires.size c.requires.fits).0 c.take-slot.ensures.count
    c.take-slot.ensures.taken in
    let within : c.take-slot.result / 512 < length c.self.inside.chunks.items = in_chunk _ _ _ free.0 in
    omega (arith, c.chunk.ensures.chunk)

pub fill-requires-clause-within : goal.fill-requires-clause-within
fill-requires-clause-within g c =
    let free =
    given_slot _ _ _ _ c.args.size c.take-slot.result c.self.invariant
    (key_fits c.args.size _ c.requires.size c.requires.fits).0 c.take-slot.ensures.count
    c.take-slot.ensures.taken in
    let read =
    IsTop-read _ _ c.take-slot.result _ _ free c.chunk.ensures.chunk c.index_mut-chunk.ensures.value in
    rw c.index.ensures.index read.within

pub fill-requires-clause-fits : goal.fill-requires-clause-fits
fill-requires-clause-fits g c =
    let fits = key_fits c.args.size _ c.requires.size c.requires.fits in
    let free =
    given_slot _ _ _ _ c.args.size c.take-slot.result c.self.invariant fits.0 c.take-slot.ensures.count
    c.take-slot.ensures.taken in
    let read =
    IsTop-read _ _ c.take-slot.result _ _ free c.chunk.ensures.chunk c.index_mut-chunk.ensures.value in
    rw read.own fits.1

pub invariant_of-self : goal.invariant_of-self
invariant_of-self g c =
    let below = (key_fits c.args.size _ c.requires.size c.requires.fits).0 in
    let free =
    given_slot _ _ _ _ c.args.size c.take-slot.result c.self.invariant below c.take-slot.ensures.count
    c.take-slot.ensures.taken in
    let read =
    IsTop-read _ _ c.take-slot.result _ _ free c.chunk.ensures.chunk c.index_mut-chunk.ensures.value in
    rw (c.fill.ensures.filled, c.index.ensures.index, c.chunk.ensures.chunk)
    (IsKept-taken _ _ _ _ _ c.args.size c.take-slot.result _ c.self.invariant below c.take-slot.ensures.count
    c.take-slot.ensures.taken (Writes-set _ c.take-slot.result _ _ read.found read.within)
    (sym c.requires.size))

pub returns-clause-was_free : goal.returns-clause-was_free
returns-clause-was_free g c =
    let free =
    given_slot _ _ _ _ c.args.size c.take-slot.result c.self.invariant
    (key_fits c.args.size _ c.requires.size c.requires.fits).0 c.take-slot.ensures.count
    c.take-slot.ensures.taken in
    rw (← c.self.view_is) (get-records_of _ c.take-slot.result ∙ ap (option_and_then held) free.1)

pub returns-clause-placed : goal.returns-clause-placed
returns-clause-placed g c =
    let free =
    given_slot _ _ _ _ c.args.size c.take-slot.result c.self.invariant
    (key_fits c.args.size _ c.requires.size c.requires.fits).0 c.take-slot.ensures.count
    c.take-slot.ensures.taken in
    let read =
    IsTop-read _ _ c.take-slot.result _ _ free c.chunk.ensures.chunk c.index_mut-chunk.ensures.value in
    rw (← c.self.view_is, c.fill.ensures.filled, c.index.ensures.index, c.chunk.ensures.chunk)
    (records_of-put _ _ c.take-slot.result _ (Writes-set _ c.take-slot.result _ _ read.found read.within))

pub returns-clause-spare : goal.returns-clause-spare
returns-clause-spare g c =
    let below = (key_fits c.args.size _ c.requires.size c.requires.fits).0 in
    rw (← c.self.view_is, c.take-slot.ensures.taken)
    (sym (spare_more _ c.args.size c.take-slot.result (omega (
      arith,
      c.self.invariant.ten,
      c.take-slot.ensures.count,
    ))))

pub returns-clause-other_sizes : goal.returns-clause-other_sizes
returns-clause-other_sizes g c = λ s other.
    rw (← c.self.view_is, c.take-slot.ensures.taken) (sym (spare_same _ c.args.size s _ other))
