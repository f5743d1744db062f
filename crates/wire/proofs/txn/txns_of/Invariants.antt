use Rattle.std.proofs.Common.{◌≡◌, ◌-◌, length}
use Rattle.keyspace.specs.storage.Tables.{AreRows}
use Rattle.wire.specs.Lying.{txns_read, IsRestOf, AreApart, index_of}
use Rattle.wire.specs.Reading.{txn_at, many_at}
use Rattle.wire.proofs.Loop.{with_front}
use Rattle.wire.proofs.txn.txns_of.Given as goal

abbrev pub invariant-loop : goal.invariant-loop
invariant-loop l =
    (with_front (txns_read l.frame l.spans.items 0 l.rows.items) (many_at (txn_at l.version) (l.count - l.counter) l.rest)
    ≡ many_at (txn_at l.version) l.count l.bytes)
    × AreRows 0 l.rows.items (length l.spans.items)
    × IsRestOf l.frame l.rest
    × AreApart 0 l.spans.items (index_of l.frame l.rest)
