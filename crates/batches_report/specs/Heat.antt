-- How many transactions each read range was in conflict for. This project's own.
use Rattle.std.specs.Prelude.{◌≡◌, ℕ, ◌+◌, Bool, List, count_by}
use Rattle.std.specs.BTreeMap.{get_by_text}
use Rattle.std.specs.Option.{unwrap_or}
use Rattle.batches_report.specs.JudgedTxns.{JudgedTxn}
use Rattle.batches_report.specs.Names.{is_among, names_at}
use Rattle.batches_report.specs.declared.heat.Heat.{Heat}

-- the transactions that were counted for the range of this name
abbrev pub heat_of : Heat → List ℕ → ℕ
heat_of heat name = unwrap_or (get_by_text heat.counts name) 0

-- a read range of this name is reported to be in conflict
abbrev pub reads_in_conflict : List ℕ → JudgedTxn → Bool
reads_in_conflict name j = is_among (names_at j.txn j.entry.places) name

-- Each range has the number of the transactions that read it in conflict. None counts twice.
abbrev pub IsHeatOf : List JudgedTxn → Heat → Type 0
IsHeatOf js heat = (name : List ℕ) → heat_of heat name ≡ count_by (reads_in_conflict name) js
