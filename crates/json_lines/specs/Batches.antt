-- The batch that a line spells.
use Rattle.std.specs.Prelude.{ℕ, ℤ, pos, negsuc, int_le, int_lt, List, [], ◌∷◌, Bool, false, ◌&&◌, Option, Some}
use Rattle.json.specs.Json.{Json, document}
use Rattle.json.specs.Find.{as_bool}
use Rattle.keyspace.specs.declared.batch.TheConstants.{MAX_TXNS}
use Rattle.wire.specs.Fields.{TxnFields, BatchFields}
use Rattle.json_lines.specs.Names.{name_of}
use Rattle.json_lines.specs.Values.{◌>>=◌, number_in, list_in, has_only, if_so, required_member, optional}
use Rattle.json_lines.specs.Ranges.{ranges_in}
use Rattle.json_lines.specs.declared.member.Member.TheVariants.{Previous, Version, Received, Transactions, Snapshot, Report, Reads, Writes}

abbrev pub txn_names : List (List ℕ)
txn_names = name_of Snapshot ∷ name_of Report ∷ name_of Reads ∷ name_of Writes ∷ []

abbrev pub batch_names : List (List ℕ)
batch_names = name_of Previous ∷ name_of Version ∷ name_of Received ∷ name_of Transactions ∷ []

-- whether a report is asked for
abbrev pub report_in : Json → Option Bool
report_in j = optional as_bool false (name_of Report) j

unfoldable pub txn_members : Json → Option TxnFields
txn_members j = do
  snapshot ← required_member number_in (name_of Snapshot) j
  report ← report_in j
  reads ← required_member ranges_in (name_of Reads) j
  writes ← required_member ranges_in (name_of Writes) j
  ok ← if_so (int_le (pos 0) snapshot)
  Some (record { snapshot = snapshot; marked = report; reads = reads; writes = writes })

-- an object of these members, of which only the report may be omitted: then none is requested
unfoldable pub txn_in : Json → Option TxnFields
txn_in j = if_so (has_only txn_names j) >>= λ _. txn_members j

abbrev pub txns_in : Json → Option (List TxnFields)
txns_in j = list_in txn_in MAX_TXNS j

-- the last received version
abbrev pub received_in : Json → Option ℤ
received_in j = optional number_in (negsuc 0) (name_of Received) j

-- the versions that a batch may have
abbrev pub are_versions : ℤ → ℤ → ℤ → Bool
are_versions previous version received =
    int_le (negsuc 0) previous && (int_lt previous version && (int_le (negsuc 0) received && int_lt received version))

unfoldable pub batch_members : Json → Option BatchFields
batch_members j = do
  previous ← required_member number_in (name_of Previous) j
  version ← required_member number_in (name_of Version) j
  received ← received_in j
  txns ← required_member txns_in (name_of Transactions) j
  ok ← if_so (are_versions previous version received)
  Some (record { previous = previous; version = version; received = received; txns = txns })

-- an object of these members, of which only the last received version may be omitted: then it is -1
unfoldable pub batch_in : Json → Option BatchFields
batch_in j = if_so (has_only batch_names j) >>= λ _. batch_members j

-- the batch that a text spells
abbrev pub batch_of : List ℕ → Option BatchFields
batch_of text = document text >>= batch_in
