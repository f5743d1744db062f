-- Tables of a shard with one transaction more, and the reaches of what is left.
use Rattle.std.proofs.Common.{◌≡◌, ℕ, zero, suc, ◌+◌, ◌≤◌, ◌<◌, List, [], ◌∷◌, ◌++◌, length, map, drop, refl, sym, ap, ap₂, ◌∙◌, subst, subst₂, arith}
use Rattle.std.specs.Prelude.{All, Some, slice_get}
use Rattle.std.specs.List.{AllZip}
use Rattle.std.proofs.lemmas.List.{map-append}
use Rattle.std.proofs.lemmas.List.Elements.{All-nil}
use Rattle.keys.specs.declared.range.Range.{Range}
use Rattle.keyspace.specs.declared.txn.Txn.{Txn}
use Rattle.keyspace.specs.declared.span.Span.{Span}
use Rattle.keyspace.specs.declared.row.Row.{Row}
use Rattle.keyspace.specs.storage.Fields.{TxnLimits}
use Rattle.keyspace.specs.storage.Tables.{LiesWithin, txns_of_tables, AreTables}
use Rattle.keyspace.specs.storage.Putting.{ArePut}
use Rattle.keyspace.specs.storage.BatchRanges.{ranges_in}
use Rattle.keyspace.proofs.callers.Putting.{txn_put}
use Rattle.serial.specs.Shards.{Shard}
use Rattle.shards.specs.Clips.{goes_to, read_indices}
use Rattle.shards.specs.Built.{IsProper, HasBounds, IsBuilt, clips_of, clip_txn}
use Rattle.shards.specs.declared.shard_tables.ShardTables.{ShardTables}
use Rattle.shards.specs.ReadIndices.{parts_from, AreEnds, AreIndices}
use Rattle.shards.specs.Reach.{shard_at, IsReported, IsReach}
use Rattle.shards.specs.declared.reach.Reach.{Reach}
use Rattle.shards.proofs.ClipLists.{clip_limits}
use Rattle.shards.proofs.IndexLists.{indices_appended, part_appended, places_below}
use Rattle.shards.proofs.Together.{zip_weaker}

-- the tables of no transactions
pub built_none : (shard : Shard) (m : ℕ) (tables : ShardTables) → IsProper shard → HasBounds shard m tables.buffer.items tables.bounds
    → tables.spans.items ≡ [] → tables.rows.items ≡ [] → tables.indices.items ≡ [] → tables.ends.items ≡ []
    → IsBuilt shard m [] tables
built_none shard m tables proper bounds no_spans no_rows no_indices no_ends = record {
  proper = proper;
  bounds = bounds;
  fit = rw (no_spans, no_rows) (record {
    spans_within = All-nil (LiesWithin (length tables.buffer.items));
    rows_fit = refl;
    holds = All-nil TxnLimits;
  });
  reported = rw no_rows refl;
  indices = rw (no_indices, no_ends) (record { ends_fit = refl; below = All-nil (λ index. index < 1024) });
  reads = rw no_ends refl;
}

-- the elements from an index on are the one there and those after it
pub drop_next : {X : Type 0} (xs : List X) (i : ℕ) (x : X) → slice_get xs i ≡ Some x → drop i xs ≡ x ∷ drop (i + 1) xs
drop_next [] i x at = cc
drop_next (y ∷ xs) zero x at = let same : y ≡ x = cc in ap (λ z. z ∷ xs) same
drop_next (y ∷ xs) (suc i) x at =
    let more : suc i + 1 ≡ suc (i + 1) = omega arith in
    drop_next xs i x at ∙ ap (λ n. x ∷ drop n (y ∷ xs)) (sym more)

pub ranges_next : (txns : List Txn) (i : ℕ) (t : Txn) → slice_get txns i ≡ Some t
    → ranges_in (drop i txns) ≡ (t.reads ++ t.writes) ++ ranges_in (drop (i + 1) txns)
ranges_next txns i t at = ap ranges_in (drop_next txns i t at)

-- what is known of all shards is known of one
pub reported_of_shard : (points : List (List ℕ)) (m : ℕ) → m ≤ length points → (ranges : List Range) (reaches : List Reach)
    → AllZip (IsReach points) ranges reaches → AllZip (IsReported (shard_at points m) m) ranges reaches
reported_of_shard points m within ranges reaches zipped =
    zip_weaker (IsReach points) (IsReported (shard_at points m) m) (λ range reach is. is.each m within) ranges reaches zipped

module _ (shard : Shard) (proper : IsProper shard) (txns : List Txn) (t : Txn) where
  -- the tables with the clip of a transaction more
  pub clip_put : (buffer buffer₁ buffer₂ : List ℕ) (spans spans₁ spans₂ : List Span) (rows : List Row) (row : Row)
      → AreTables buffer spans rows → txns_of_tables buffer spans rows ≡ map (clip_txn shard) txns
      → ArePut buffer spans (clips_of shard t.reads) buffer₁ spans₁ → ArePut buffer₁ spans₁ (clips_of shard t.writes) buffer₂ spans₂
      → row.snapshot ≡ t.snapshot → row.marked ≡ t.marked
      → row.writes ≡ length (clips_of shard t.writes) → row.end ≡ length spans₂
      → AreTables buffer₂ spans₂ (rows ++ row ∷ [])
      × (txns_of_tables buffer₂ spans₂ (rows ++ row ∷ []) ≡ map (clip_txn shard) (txns ++ t ∷ []))
  clip_put buffer buffer₁ buffer₂ spans spans₁ spans₂ rows row fit reported first second snapshot marked writes end =
      let both = txn_put buffer buffer₁ buffer₂ spans spans₁ spans₂ rows row (clip_txn shard t) fit (clip_limits shard proper t)
      first second snapshot marked writes end in (
        both.0,
        both.1 ∙ ap (λ clips. clips ++ clip_txn shard t ∷ []) reported ∙ sym (map-append (clip_txn shard) txns (t ∷ [])),
      )

  -- and the indices of its read ranges
  pub indices_put : (indices ends : List ℕ) → AreEnds 0 ends (length indices)
      → parts_from 0 indices ends ≡ map (read_indices shard) txns
      → parts_from 0 (indices ++ read_indices shard t) (ends ++ length (indices ++ read_indices shard t) ∷ [])
      ≡ map (read_indices shard) (txns ++ t ∷ [])
  indices_put indices ends fit reads =
      part_appended indices (read_indices shard t) ends fit ∙ ap (λ parts. parts ++ read_indices shard t ∷ []) reads
      ∙ sym (map-append (read_indices shard) txns (t ∷ []))

-- The tables with the clip of one transaction more, once its ranges and the indices of its read ranges have been put.
pub built_put : (shard : Shard) (m : ℕ) (txns : List Txn) (t : Txn) (old new : ShardTables) (buffer₁ : List ℕ) (spans₁ : List Span)
    (row : Row) → IsBuilt shard m txns old → ArePut old.buffer.items old.spans.items (clips_of shard t.reads) buffer₁ spans₁
    → ArePut buffer₁ spans₁ (clips_of shard t.writes) new.buffer.items new.spans.items
    → HasBounds shard m new.buffer.items new.bounds → row.snapshot ≡ t.snapshot → row.marked ≡ t.marked
    → row.writes ≡ length (clips_of shard t.writes) → row.end ≡ length new.spans.items
    → new.rows.items ≡ old.rows.items ++ row ∷ [] → new.indices.items ≡ old.indices.items ++ read_indices shard t
    → new.ends.items ≡ old.ends.items ++ length (old.indices.items ++ read_indices shard t) ∷ []
    → IsBuilt shard m (txns ++ t ∷ []) new
built_put shard m txns t old new buffer₁ spans₁ row built reads writes bounds snapshot marked writes_are end rows indices ends =
    let more = read_indices shard t in
    let below : All (λ index. index < 1024) more = places_below 0 (goes_to shard) t.reads 1024 (omega (arith, t.few_reads)) in
    let tables = clip_put shard built.proper txns t old.buffer.items buffer₁ new.buffer.items old.spans.items spans₁ new.spans.items
    old.rows.items row built.fit built.reported reads writes snapshot marked writes_are end in
    record {
      proper = built.proper;
      bounds = bounds;
      fit = subst (AreTables new.buffer.items new.spans.items) (sym rows) tables.0;
      reported = ap (txns_of_tables new.buffer.items new.spans.items) rows ∙ tables.1;
      indices = subst₂ AreIndices (sym indices) (sym ends) (indices_appended old.indices.items more old.ends.items built.indices below);
      reads = ap₂ (parts_from 0) indices ends
          ∙ indices_put shard built.proper txns t old.indices.items old.ends.items built.indices.ends_fit built.reads;
    }
