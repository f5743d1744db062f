use Rattle.std.proofs.Common.{◌≡◌, ◌<◌, ◌∙◌, ℕ, Bool, cond, true, false, get_or, length, ap, arith}
use Rattle.std.specs.Int.{from_bool}
use Rattle.std.proofs.lemmas.List.{get_or_default}
use Rattle.keys.specs.Singles.{is_marked}
use Rattle.keyspace.proofs.WriteOrder.{chosen_more, read_before}
use Rattle.keyspace.proofs.write_order.list_writes.Goals.{After-index-index}
use Rattle.keyspace.proofs.write_order.list_writes.Goals as goal

-- the place is one of the list
within : (c : After-index-index) → c.loop-place.place < length c.loop-place.order.items
within c = omega (arith, c.loop-place-test.true, c.loop-place.invariant.long, c.args.order.ok.0, c.len-place-end.ensures)

-- the index has a mark
marked : (c : After-index-index) → c.index-index.result.now < length c.args.written.now
marked c =
    let marks = c.args.written.now in
    read_before (λ n. n < length marks) (is_marked marks) c.args.order.items c.loop-place.order.items c.loop-place.len
    c.loop-place.place c.index-index.result.now c.loop-place.invariant (within c) c.requires.within c.index-index.ensures

pub bounds-written-index : goal.bounds-written-index
bounds-written-index c = marked (goal.at.bounds-written-index c).After-index-index

as_counted : (n : ℕ) (b : Bool) → n ≡ from_bool b → n ≡ cond b 1 0
as_counted n true is = is
as_counted n false is = is

pub loop-place-preserved : goal.loop-place-preserved
loop-place-preserved c =
    let at = (goal.at.loop-place-preserved c).After-index-index in
    let x = c.index-index.result.now in
    let marks = c.args.written.now in
    chosen_more (is_marked marks) c.args.order.items c.loop-place.order.items c.loop-place.len c.loop-place.place
    c.from-len.result x c.loop-place.invariant (within at) c.index-index.ensures
    (as_counted c.from-len.result (get_or marks x false) c.from-len.ensures)
