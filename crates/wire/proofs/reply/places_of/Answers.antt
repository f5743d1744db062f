use Rattle.std.proofs.Common.{arith}
use Rattle.std.proofs.lemmas.Result.{err_from_is_err_and}
use Rattle.wire.specs.Reading.{places_at}
use Rattle.wire.proofs.PlaceLists.{continues, ends, is_done, read_are_places}
use Rattle.wire.proofs.reply.places_of.Goals as goal

pub returns-in_err-place-clause-reads : goal.returns-in_err-place-clause-reads
returns-in_err-place-clause-reads c =
    let p = err_from_is_err_and c.from_residual-in_err-place.result c.from_residual-in_err-place.ensures.1 in
    rw (p.1, p.2) (ends c.in_err-place.field-0.0 c.loop.least c.loop.places.items c.args.count c.loop.counter
    c.loop.rest.now (places_at 0 c.args.count c.args.bytes.now) c.loop-test.true
    c.in_err-place.ensures.reads c.loop.invariant.0)

pub loop-preserved : goal.loop-preserved
loop-preserved c = (
  rw c.in_ok-push.ensures.items (continues c.loop.least c.loop.places.items c.args.count c.loop.counter
      c.loop.rest.now c.in_ok-place.place c.in_ok-place.after.now
      (places_at 0 c.args.count c.args.bytes.now) c.loop-test.true c.in_ok-place.ensures.reads
      c.loop.invariant.0),
  omega (arith, c.in_ok-push.ensures.len),
)

pub returns-clause-reads : goal.returns-clause-reads
returns-clause-reads c = is_done c.loop.least c.loop.places.items c.args.count c.loop.counter c.loop.rest.now
    (places_at 0 c.args.count c.args.bytes.now) c.loop-test.false c.loop.invariant.0

pub returns-clause-places : goal.returns-clause-places
returns-clause-places c =
    let read = is_done c.loop.least c.loop.places.items c.args.count c.loop.counter c.loop.rest.now
    (places_at 0 c.args.count c.args.bytes.now) c.loop-test.false c.loop.invariant.0 in
    read_are_places c.args.count c.args.bytes.now (
      c.loop.places.items,
      c.loop.rest.now,
    ) (λ i. omega (arith, c.type_inv.bytes i)) read
