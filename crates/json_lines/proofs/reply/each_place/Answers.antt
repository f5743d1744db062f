use Rattle.std.proofs.lemmas.Result.{err_from_is_err_and}
use Rattle.json.specs.Value.{items_view}
use Rattle.json_lines.specs.Replies.{rising}
use Rattle.json_lines.proofs.Rising.{rising_on, rising_ends, rising_done, read_places}
use Rattle.json_lines.proofs.reply.each_place.Goals as goal

pub returns-in_err-next-clause-reads : goal.returns-in_err-next-clause-reads
returns-in_err-next-clause-reads c =
    let p = err_from_is_err_and c.from_residual.result c.from_residual.ensures.1 in
    rw (p.1, p.2) (λ not_memory. rising_ends c.loop-index.least c.loop-index.places.items c.args.items.now c.loop-index.index
    c.index-items-index.result (rising 0 (items_view c.args.items.now)) c.loop-index-test.true c.index-items-index.is
    (c.in_err-next.ensures.reads not_memory) c.loop-index.invariant)

pub loop-index-preserved : goal.loop-index-preserved
loop-index-preserved c =
    rw c.in_ok-push.ensures.items (rising_on c.loop-index.least c.loop-index.places.items c.args.items.now c.loop-index.index
    c.index-items-index.result c.in_ok-next.next (rising 0 (items_view c.args.items.now)) c.loop-index-test.true
    c.index-items-index.is c.in_ok-next.ensures.reads c.loop-index.invariant)

pub returns-clause-reads : goal.returns-clause-reads
returns-clause-reads c = rising_done c.loop-index.least c.loop-index.places.items c.args.items.now c.loop-index.index
    (rising 0 (items_view c.args.items.now)) c.loop-index-test.false c.loop-index.invariant

pub returns-clause-places : goal.returns-clause-places
returns-clause-places c = read_places (items_view c.args.items.now) c.loop-index.places.items
    (rising_done c.loop-index.least c.loop-index.places.items c.args.items.now c.loop-index.index
    (rising 0 (items_view c.args.items.now)) c.loop-index-test.false c.loop-index.invariant)
