-- Conflicts one by one: of a read range, of a transaction, and of a batch.
use Rattle.std.proofs.Common.{◌≡◌, ℕ, zero, suc, ◌+◌, ◌^◌, ◌-◌, List, [], ◌∷◌, ◌++◌, take, Option, Some, slice_get, sym, ap, ◌∙◌, arith, append-nil, append_assoc}
use Rattle.std.specs.Prelude.{flat_map}
use Rattle.std.proofs.lemmas.Grind.{flat_map-append}
use Rattle.keys.specs.declared.range.Range.{Range}
use Rattle.keys.proofs.callers.Lists.{part_more}
use Rattle.keyspace.specs.declared.txn.Txn.{Txn}
use Rattle.keyspace.specs.declared.batch.Batch.{Batch}
use Rattle.keyspace.specs.declared.reply.Entry.{Entry}
use Rattle.keyspace.specs.Processed.{Processed}
use Rattle.explanations.specs.Written.{Written, all_written, newest_write}
use Rattle.explanations.proofs.callers.Newest.{newest_write-last}
use Rattle.explanations.specs.Explains.{explaining_newest, explaining_of, explaining_range, explaining_txn, newest_of}
use Rattle.explanations.specs.Found.{IsExplained}
use Rattle.replay_hot_ranges.specs.Conflicts.{InConflict, conflict_of, conflicts_of, in_conflict, rejected_by, rejected_from}

-- the conflict of a read range by the newest of the writes that explain it
pub explained : (range : Range) (ws : List Written) (w : Written) (further : ℕ) → IsExplained ws (2 ^ 64 - 1) w further
    → record { read = range; written = w.range } ∷ [] ≡ in_conflict range (newest_write ws)
explained range ws w further found =
    sym (ap (in_conflict range) (ap newest_write found.last ∙ newest_write-last found.others w))

-- what the history explains of a read range of the newest batch
pub by_range : (ps : List Processed) (b : Batch) (j i : ℕ) (t : Txn) (range : Range) → newest_of ps ≡ Some b
    → slice_get b.txns j ≡ Some t → slice_get t.reads i ≡ Some range
    → explaining_newest ps j i ≡ explaining_range (all_written ps) b.version j t.snapshot (Some range)
by_range ps b j i t range is at read =
    ap (λ (o : Option Batch). explaining_of ps o j i) is
    ∙ ap (λ (o : Option Txn). explaining_txn (all_written ps) b.version j o i) at
    ∙ ap (explaining_range (all_written ps) b.version j t.snapshot) read

-- the conflicts of one read range more
pub conflicts_more : (ps : List Processed) (b : Batch) (j i : ℕ) (t : Txn) (range : Range) → newest_of ps ≡ Some b
    → slice_get b.txns j ≡ Some t → slice_get t.reads i ≡ Some range
    → flat_map (conflict_of ps b j t) (take i t.reads) ++ in_conflict range (newest_write (explaining_newest ps j i))
    ≡ flat_map (conflict_of ps b j t) (take (i + 1) t.reads)
conflicts_more ps b j i t range is at read =
    let next : 0 + i ≡ i = omega arith in
    let before = flat_map (conflict_of ps b j t) (take i t.reads) in
    ap (λ ws. before ++ in_conflict range (newest_write ws)) (by_range ps b j i t range is at read)
    ∙ ap (λ (cs : List InConflict). before ++ cs) (sym (append-nil (conflict_of ps b j t range)))
    ∙ sym (flat_map-append (conflict_of ps b j t) (take i t.reads) (range ∷ []))
    ∙ ap (flat_map (conflict_of ps b j t)) (sym (part_more t.reads 0 i range (ap (slice_get t.reads) next ∙ read)))

more_from : (ps : List Processed) (b : Batch) (first last : ℕ) (ts : List Txn) (es : List Entry) (n : ℕ) (t : Txn) (e : Entry)
    → last ≡ first + n → slice_get ts n ≡ Some t → slice_get es n ≡ Some e
    → rejected_from ps b first (take (suc n) ts) (take (suc n) es)
    ≡ rejected_from ps b first (take n ts) (take n es) ++ rejected_by e.verdict (conflicts_of ps b last t)
more_from ps b first last [] es n t e same at_t at_e = absurd cc
more_from ps b first last (s ∷ ts) [] n t e same at_t at_e = absurd cc
more_from ps b first last (s ∷ ts) (f ∷ es) zero t e same at_t at_e =
    let same_t : s ≡ t = cc in
    let same_e : f ≡ e = cc in
    let same_txn : first ≡ last = omega arith in
    append-nil (rejected_by f.verdict (conflicts_of ps b first s))
    ∙ ap (λ (j : ℕ). rejected_by f.verdict (conflicts_of ps b j s)) same_txn
    ∙ ap (λ (x : Entry). rejected_by x.verdict (conflicts_of ps b last s)) same_e
    ∙ ap (λ (x : Txn). rejected_by e.verdict (conflicts_of ps b last x)) same_t
more_from ps b first last (s ∷ ts) (f ∷ es) (suc n) t e same at_t at_e =
    let own = rejected_by f.verdict (conflicts_of ps b first s) in
    ap (λ (xs : List (List InConflict)). own ++ xs) (more_from ps b (first + 1) last ts es n t e (omega arith) at_t at_e)
    ∙ sym (append_assoc own (rejected_from ps b (first + 1) (take n ts) (take n es)) (rejected_by e.verdict (conflicts_of ps b last t)))

-- the conflicts of one transaction more
pub rejected_more : (txns : List (List InConflict)) (ps : List Processed) (b : Batch) (ts : List Txn) (es : List Entry) (n : ℕ) (t : Txn)
    (e : Entry) → slice_get ts n ≡ Some t → slice_get es n ≡ Some e
    → (txns ++ rejected_from ps b 0 (take n ts) (take n es)) ++ rejected_by e.verdict (conflicts_of ps b n t)
    ≡ txns ++ rejected_from ps b 0 (take (n + 1) ts) (take (n + 1) es)
rejected_more txns ps b ts es n t e at_t at_e =
    let one : n + 1 ≡ suc n = omega arith in
    append_assoc txns (rejected_from ps b 0 (take n ts) (take n es)) (rejected_by e.verdict (conflicts_of ps b n t))
    ∙ ap (λ (xs : List (List InConflict)). txns ++ xs)
    (sym (more_from ps b 0 n ts es n t e (omega arith) at_t at_e)
    ∙ ap (λ (k : ℕ). rejected_from ps b 0 (take k ts) (take k es)) (sym one))
