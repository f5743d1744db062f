use Rattle.std.proofs.Common.{◌≡◌, ◌-◌, ◌+◌, map, take, drop, length}
use Rattle.wire.specs.Lying.{range_read, IsRestOf, AreApart, index_of}
use Rattle.wire.specs.Reading.{range_at, many_at}
use Rattle.wire.proofs.Loop.{with_front}
use Rattle.wire.proofs.range.push_ranges.Given as goal

abbrev pub invariant-loop : goal.invariant-loop
invariant-loop l =
    (with_front (map (range_read l.frame) (drop (length l.fn.spans.items) l.spans.items))
    (many_at (range_at l.version) (l.count - l.counter) l.rest)
    ≡ many_at (range_at l.version) l.count l.bytes)
    × (take (length l.fn.spans.items) l.spans.items ≡ l.fn.spans.items)
    × (length l.spans.items ≡ length l.fn.spans.items + l.counter)
    × IsRestOf l.frame l.rest
    × AreApart 0 l.spans.items (index_of l.frame l.rest)
