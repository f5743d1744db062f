-- What batches add up to, as one object of JSON.
use Rattle.std.specs.Prelude.{ℕ, ℤ, List, [], ◌∷◌, ◌++◌, codes, decimal, Option, Some, None}
use Rattle.std.specs.Fmt.{signed_decimal}
use Rattle.batches_tasks.specs.declared.spread.Spread.{Spread}
use Rattle.batches_tasks.specs.declared.stats.Stats.{Stats}
use Rattle.batches_tasks.specs.StatsText.{mean_text}

-- a comma, and the name of a member
abbrev pub member_name : List ℕ → List ℕ
member_name name = codes ",\"" ++ name ++ codes "\":"

abbrev pub number_member : List ℕ → ℕ → List ℕ
number_member name number = member_name name ++ decimal number

abbrev pub versions_member : Option (ℤ × ℤ) → List ℕ
versions_member None = codes ",\"versions\":null"
versions_member (Some ends) =
    codes ",\"versions\":[" ++ signed_decimal ends.0 ++ codes "," ++ signed_decimal ends.1 ++ codes "]"

abbrev pub spread_object : Spread → Option (ℕ × ℕ) → List ℕ
spread_object spread None = codes "null"
spread_object spread (Some ends) =
    codes "{\"least\":" ++ decimal ends.0 ++ codes ",\"mean\":" ++ mean_text spread
    ++ codes ",\"greatest\":" ++ decimal ends.1 ++ codes "}"

abbrev pub spread_member : List ℕ → Spread → List ℕ
spread_member name spread = member_name name ++ spread_object spread spread.ends

-- the begin of the object, and its first member
abbrev pub first_member : ℕ → List ℕ
first_member batches = codes "{\"batches\":" ++ decimal batches

abbrev pub stats_json : Stats → List ℕ
stats_json stats =
    first_member stats.txns.count
    ++ number_member (codes "bytes") stats.bytes
    ++ versions_member stats.versions
    ++ number_member (codes "transactions") stats.txns.total
    ++ number_member (codes "reports") stats.of_txns.marked
    ++ spread_member (codes "transactions_per_batch") stats.txns
    ++ number_member (codes "reads") stats.of_txns.reads.total
    ++ spread_member (codes "reads_per_transaction") stats.of_txns.reads
    ++ number_member (codes "writes") stats.of_txns.writes.total
    ++ spread_member (codes "writes_per_transaction") stats.of_txns.writes
    ++ number_member (codes "keys") stats.keys.count
    ++ spread_member (codes "key_bytes") stats.keys
    ++ codes "}\n"
