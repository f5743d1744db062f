use Rattle.std.proofs.Common.{◌≡◌, ◌++◌, ◌∷◌, [], map, take, get_or, sym, ap, ◌∙◌, subst, arith}
use Rattle.std.proofs.lemmas.List.{map_more}
use Rattle.keyspace.specs.storage.Fields.{range_fields}
use Rattle.keyspace.specs.storage.Putting.{ArePut}
use Rattle.keyspace.proofs.Putting.{put_none, put_then}
use Rattle.keyspace.proofs.tables.put_ranges.Goals as goal

pub loop-range-init : goal.loop-range-init
loop-range-init c = put_none _ _

pub loop-range-preserved : goal.loop-range-preserved
loop-range-preserved c =
    let range = c.range-item.result in
    let item : range ≡ get_or c.args.ranges.now c.loop-range.range-index range = c.range-item.is in
    let done = map range_fields (take c.loop-range.range-index c.args.ranges.now) in
    let buffer = c.args.buffer.now.items in
    let spans = c.args.spans.now.items in
    subst (λ ranges. ArePut buffer spans ranges c.put_range.new.buffer.items c.put_range.new.spans.items)
    (sym (map_more range_fields c.args.ranges.now c.loop-range.range-index range (omega arith)
    ∙ ap (λ r. done ++ range_fields r ∷ []) (sym item)))
    (put_then buffer spans done c.loop-range.buffer.items c.loop-range.spans.items (range_fields range ∷ [])
    c.put_range.new.buffer.items c.put_range.new.spans.items c.loop-range.invariant c.in_ok-put_range.ensures.put)
