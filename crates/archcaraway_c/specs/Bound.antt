-- The greatest length of a reply, as far as the batch determines it. This project's own.
use Rattle.std.specs.Prelude.{ℕ, ◌+◌, ◌*◌, if◌then◌else◌, length}
use Rattle.std.specs.List.{sum_by}
use Rattle.keyspace.specs.declared.txn.Txn.{Txn}
use Rattle.keyspace.specs.declared.batch.Batch.{Batch}

-- an entry has three bytes, and two for each read range of a transaction that asks for the report
abbrev pub most_entry_length : Txn → ℕ
most_entry_length t = if t.marked then 3 + 2 * length t.reads else 3

-- a frame has four bytes of length, and a body of eleven bytes and the entries
abbrev pub most_reply_length : Batch → ℕ
most_reply_length batch = 15 + sum_by most_entry_length batch.txns
