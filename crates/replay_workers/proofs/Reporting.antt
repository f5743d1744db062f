-- Batches whose transactions all ask for their reports: their tables, and rows that are changed one by one.
use Rattle.std.specs.Prelude.{
  ◌≡◌,
  ℕ,
  zero,
  suc,
  ◌+◌,
  ◌<◌,
  ◌≤◌,
  true,
  List,
  [],
  ◌∷◌,
  length,
  map,
  All,
  slice_index_or as get_or,
  slice_set as set,
}
use Rattle.std.proofs.Common.{refl, sym, ap, subst, ◌∙◌, add-one, arith}
use Rattle.std.proofs.lemmas.List.{length-map}
use Rattle.std.proofs.lemmas.List.Elements.{All-map}
use Rattle.keyspace.specs.declared.batch.TheConstants.{MAX_TXNS}
use Rattle.keyspace.specs.declared.row.Row.{Row}
use Rattle.keyspace.specs.declared.span.Span.{Span}
use Rattle.keyspace.specs.declared.txn.Txn.{Txn}
use Rattle.keyspace.specs.storage.Fields.{TxnFields, TxnLimits, txn_fields}
use Rattle.keyspace.specs.storage.Tables.{AreRows, AreTables, txn_of_row, txns_from, txns_of_tables}
use Rattle.replay_workers.specs.Asking.{asking_row}
use Rattle.replay_workers.specs.Reporting.{asking_txn}

-- the first i rows ask
pub asked_to : ℕ → List Row → List Row
asked_to zero rows = rows
asked_to (suc i) [] = []
asked_to (suc i) (row ∷ rows) = asking_row row ∷ asked_to i rows

pub none_asked : (rows : List Row) → rows ≡ asked_to zero rows
unfolding asked_to
none_asked rows = refl

get-asked : (i : ℕ) (rows : List Row) (d : Row) → i < length rows → get_or (asked_to i rows) i d ≡ get_or rows i d
unfolding asked_to
get-asked i [] d inside = absurd (omega (arith, inside))
get-asked zero (row ∷ rows) d inside = refl
get-asked (suc i) (row ∷ rows) d inside = get-asked i rows d (omega (arith, inside))

set-asked : (i : ℕ) (rows : List Row) (d : Row) → i < length rows
    → set (asked_to i rows) i (asking_row (get_or rows i d)) ≡ asked_to (suc i) rows
unfolding asked_to
set-asked i [] d inside = absurd (omega (arith, inside))
set-asked zero (row ∷ rows) d inside = refl
set-asked (suc i) (row ∷ rows) d inside = ap (λ (l : List Row). asking_row row ∷ l) (set-asked i rows d (omega (arith, inside)))

-- one row more asks
pub asked_also : (i : ℕ) (entire rows : List Row) (d : Row) → i < length entire → rows ≡ asked_to i entire
    → set rows i (asking_row (get_or rows i d)) ≡ asked_to (i + 1) entire
asked_also i entire rows d inside so_far =
    ap (λ (l : List Row). set l i (asking_row (get_or l i d))) so_far
    ∙ ap (λ (r : Row). set (asked_to i entire) i (asking_row r)) (get-asked i entire d inside)
    ∙ set-asked i entire d inside
    ∙ ap (λ (m : ℕ). asked_to m entire) (sym (add-one i))

-- all of them do, if i is no less than their number
pub all_asked : (i : ℕ) (rows : List Row) → length rows ≤ i → asked_to i rows ≡ map asking_row rows
unfolding asked_to
all_asked zero [] is = refl
all_asked zero (row ∷ rows) is = absurd (omega (arith, is))
all_asked (suc i) [] is = refl
all_asked (suc i) (row ∷ rows) is = ap (λ (l : List Row). asking_row row ∷ l) (all_asked i rows (omega (arith, is)))

-- what a transaction says that asks
abbrev pub asking_fields : TxnFields → TxnFields
asking_fields txn = record txn { marked = true }

limits-asking : (txn : TxnFields) → TxnLimits txn → TxnLimits (asking_fields txn)
limits-asking txn limits = record {
  snapshot = limits.snapshot;
  few_reads = limits.few_reads;
  few_writes = limits.few_writes;
  reads = limits.reads;
  writes = limits.writes;
}

rows-asking : (from : ℕ) (rows : List Row) (to : ℕ) → AreRows from rows to → AreRows from (map asking_row rows) to
rows-asking from [] to are = are
rows-asking from (row ∷ rows) to are = (are.0, rows-asking row.end rows to are.1)

from-asking : (buffer : List ℕ) (spans : List Span) (from : ℕ) (rows : List Row)
    → txns_from buffer spans from (map asking_row rows) ≡ map asking_fields (txns_from buffer spans from rows)
from-asking buffer spans from [] = refl
from-asking buffer spans from (row ∷ rows) =
    ap (λ (rest : List TxnFields). asking_fields (txn_of_row buffer spans from row) ∷ rest) (from-asking buffer spans row.end rows)

fields-asking : (txns : List Txn) → map asking_fields (map txn_fields txns) ≡ map txn_fields (map asking_txn txns)
fields-asking [] = refl
fields-asking (txn ∷ txns) = ap (λ (rest : List TxnFields). asking_fields (txn_fields txn) ∷ rest) (fields-asking txns)

module _ (buffer : List ℕ) (spans : List Span) (rows after : List Row) (asked : after ≡ map asking_row rows) where
  reported_asked : txns_of_tables buffer spans after ≡ map asking_fields (txns_of_tables buffer spans rows)
  reported_asked = ap (txns_of_tables buffer spans) asked ∙ from-asking buffer spans 0 rows

  -- the tables of transactions that ask
  pub tables_asking : AreTables buffer spans rows → AreTables buffer spans after
  tables_asking tables = record {
    spans_within = tables.spans_within;
    rows_fit = subst (λ (l : List Row). AreRows 0 l (length spans)) (sym asked) (rows-asking 0 rows (length spans) tables.rows_fit);
    holds = subst (All TxnLimits) (sym reported_asked)
        (All-map TxnLimits asking_fields (txns_of_tables buffer spans rows)
        (λ k d inside. limits-asking (get_or (txns_of_tables buffer spans rows) k d) (tables.holds k d inside)));
  }

  -- they are those transactions
  pub reported_asking : (txns : List Txn) → txns_of_tables buffer spans rows ≡ map txn_fields txns
      → txns_of_tables buffer spans after ≡ map txn_fields (map asking_txn txns)
  reported_asking txns reported = reported_asked ∙ ap (map asking_fields) reported ∙ fields-asking txns

  -- and no more
  pub few_asking : (txns : List Txn) → txns_of_tables buffer spans rows ≡ map txn_fields txns → length txns ≤ MAX_TXNS
      → length (txns_of_tables buffer spans after) ≤ MAX_TXNS
  few_asking txns reported few =
      omega (arith, few, ap length (reported_asking txns reported), length-map (map asking_txn txns) txn_fields, length-map txns asking_txn)
