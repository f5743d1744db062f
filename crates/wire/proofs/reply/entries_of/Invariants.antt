use Rattle.std.proofs.Common.{◌≡◌, ◌-◌, map, vec_len}
use Rattle.wire.specs.Fields.{entry_fields}
use Rattle.wire.specs.Reading.{entry_at, many_at}
use Rattle.wire.proofs.Loop.{with_front}
use Rattle.wire.proofs.reply.entries_of.Given as goal

abbrev pub invariant-loop : goal.invariant-loop
invariant-loop l =
    (with_front (map entry_fields l.entries.items) (many_at entry_at (l.count - l.counter) l.rest)
    ≡ many_at entry_at l.count l.bytes)
    × (vec_len l.entries ≡ l.counter)
