-- How what batches add up to is printed.
use Rattle.std.specs.Prelude.{ℕ, ℤ, ◌+◌, ◌*◌, ◌/◌, ◌%◌, List, [], ◌∷◌, ◌++◌, codes, decimal, Option, Some, None}
use Rattle.std.specs.Fmt.{signed_decimal}
use Rattle.batches_tasks.specs.declared.spread.Spread.{Spread}
use Rattle.batches_tasks.specs.declared.stats.Stats.{Stats}

-- the mean in tenths, rounded to the nearest one, and up from the middle
abbrev pub tenths_of : Spread → ℕ
tenths_of spread = (spread.total * 10 + spread.count / 2) / spread.count

abbrev pub mean_text : Spread → List ℕ
mean_text spread = decimal (tenths_of spread / 10) ++ codes "." ++ decimal (tenths_of spread % 10)

-- a line of a name and a number
abbrev pub number_line : List ℕ → ℕ → List ℕ
number_line name number = name ++ codes ": " ++ decimal number ++ codes "\n"

abbrev pub versions_line : Option (ℤ × ℤ) → List ℕ
versions_line None = codes "versions: none\n"
versions_line (Some ends) =
    codes "versions: " ++ signed_decimal ends.0 ++ codes " to " ++ signed_decimal ends.1 ++ codes "\n"

-- between the name and the end of a line of a spread
abbrev pub spread_with : Spread → Option (ℕ × ℕ) → List ℕ
spread_with spread None = codes "none"
spread_with spread (Some ends) =
    codes "least " ++ decimal ends.0 ++ codes ", mean " ++ mean_text spread ++ codes ", greatest " ++ decimal ends.1

abbrev pub spread_line : List ℕ → Spread → List ℕ
spread_line name spread = name ++ codes ": " ++ spread_with spread spread.ends ++ codes "\n"

abbrev pub stats_text : Stats → List ℕ
stats_text stats =
    number_line (codes "batches") stats.txns.count
    ++ number_line (codes "bytes") stats.bytes
    ++ versions_line stats.versions
    ++ number_line (codes "transactions") stats.txns.total
    ++ number_line (codes "transactions that request a report") stats.of_txns.marked
    ++ spread_line (codes "transactions per batch") stats.txns
    ++ number_line (codes "read ranges") stats.of_txns.reads.total
    ++ spread_line (codes "read ranges per transaction") stats.of_txns.reads
    ++ number_line (codes "write ranges") stats.of_txns.writes.total
    ++ spread_line (codes "write ranges per transaction") stats.of_txns.writes
    ++ number_line (codes "keys") stats.keys.count
    ++ spread_line (codes "key bytes") stats.keys
