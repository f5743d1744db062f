-- The names of members.
use Rattle.std.specs.Prelude.{ℕ, List, codes}
use Rattle.json_lines.specs.declared.member.Member.{Member}
use Rattle.json_lines.specs.declared.member.Member.TheVariants.{Previous, Version, Received, Transactions, Snapshot, Report, Reads, Writes, Verdicts, Conflict}

abbrev pub name_of : Member → List ℕ
name_of Previous = codes "previous"
name_of Version = codes "version"
name_of Received = codes "received"
name_of Transactions = codes "transactions"
name_of Snapshot = codes "snapshot"
name_of Report = codes "report"
name_of Reads = codes "reads"
name_of Writes = codes "writes"
name_of Verdicts = codes "verdicts"
name_of Conflict = codes "conflict"
