use Rattle.std.proofs.Common.{◌≡◌, ◌++◌, ◌∷◌, [], map, arith}
use Rattle.std.proofs.lemmas.Result.{err_from_is_err_and}
use Rattle.std.proofs.lemmas.List.{map_push}
use Rattle.json.specs.Value.{items_view}
use Rattle.wire.specs.Fields.{range_fields}
use Rattle.json_lines.specs.Ranges.{range_in}
use Rattle.json_lines.specs.Values.{each}
use Rattle.json_lines.proofs.Lists.{each_on, each_ends, each_done}
use Rattle.json_lines.proofs.range.each_range.Goals as goal

pub returns-in_err-range_of-clause-reads : goal.returns-in_err-range_of-clause-reads
returns-in_err-range_of-clause-reads c =
    let p = err_from_is_err_and c.from_residual-in_err-range_of.result c.from_residual-in_err-range_of.ensures.1 in
    rw (p.1, p.2) (λ not_memory. each_ends range_in (map range_fields c.loop-index.ranges.items) c.args.items.now c.loop-index.index
    c.index-items-index.result (each range_in (items_view c.args.items.now)) c.loop-index-test.true c.index-items-index.is
    (c.in_err-range_of.ensures.reads not_memory) c.loop-index.invariant.0)

pub loop-index-preserved : goal.loop-index-preserved
loop-index-preserved c =
    let x = c.in_ok-range_of.field-0 in
    let front = map range_fields c.loop-index.ranges.items in
    let pushed : map range_fields c.push.new.self.items ≡ front ++ range_fields x ∷ [] =
    rw c.in_ok-push.ensures.items (map_push _ c.loop-index.ranges.items x) in (
      rw pushed (each_on range_in front c.args.items.now c.loop-index.index c.index-items-index.result (range_fields x)
          (each range_in (items_view c.args.items.now)) c.loop-index-test.true c.index-items-index.is c.in_ok-range_of.ensures.reads
          c.loop-index.invariant.0),
      omega (arith, c.in_ok-push.ensures.len),
    )

pub returns-clause-reads : goal.returns-clause-reads
returns-clause-reads c = each_done range_in (map range_fields c.loop-index.ranges.items) c.args.items.now c.loop-index.index
    (each range_in (items_view c.args.items.now)) c.loop-index-test.false c.loop-index.invariant.0
