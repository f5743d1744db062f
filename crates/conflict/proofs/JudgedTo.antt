-- How far a batch is judged against its own writes.
use Rattle.std.proofs.Common.{
  ◌≡◌,
  ℕ,
  ◌+◌,
  ◌<◌,
  ◌≤◌,
  Bool,
  List,
  [],
  ◌∷◌,
  ◌++◌,
  length,
  take,
  drop,
  get_or,
  set,
  refl,
  sym,
  ap,
  ◌∙◌,
  arith,
  append_assoc,
  append-nil,
}
use Rattle.std.specs.Prelude.{All}
use Rattle.std.proofs.lemmas.List.{take_all, take_more, take_more_set, drop_all, drop_more, drop-set-lt, length-take}
use Rattle.std.proofs.lemmas.List.Elements.{All-nil, All-append}
use Rattle.keys.specs.declared.range.Range.{Range}
use Rattle.keyspace.specs.declared.txn.Txn.{Txn}
use Rattle.keyspace.specs.declared.reply.Verdict.{Verdict}
use Rattle.keyspace.specs.declared.reply.Verdict.TheVariants.{Conflict, TooOld, Committed}
use Rattle.keyspace.specs.declared.reply.Entry.{Entry}
use Rattle.keyspace.specs.Writes.{counted_ranges, committed_ranges}
use Rattle.keys.specs.GapRuns.{HaveBegin}
use Rattle.keyspace.specs.storage.BatchRanges.{ranges_of_txn, ranges_in}
use Rattle.conflict.specs.InBatch.{in_batch, in_batches}
use Rattle.conflict.specs.Written.{AreWrittenGaps, AreRunsOf}
use Rattle.conflict.proofs.Parts.{all_split}
use Rattle.conflict.proofs.RunsOfRanges.{determined_count, determined_split}
use Rattle.conflict.proofs.Written.{no_more_written}
use Rattle.conflict.proofs.FirstMet.{none_counted, closed_entry}

-- one more transaction that is judged
pub committed_push : (ts : List Txn) (es : List Entry) (t : Txn) (e : Entry) → length ts ≡ length es
    → committed_ranges (ts ++ t ∷ []) (es ++ e ∷ []) ≡ committed_ranges ts es ++ counted_ranges e.verdict t.writes
committed_push [] [] t e same = append-nil (counted_ranges e.verdict t.writes)
committed_push [] (f ∷ es) t e same = absurd (omega arith)
committed_push (u ∷ ts) [] t e same = absurd (omega arith)
committed_push (u ∷ ts) (f ∷ es) t e same =
    ap (λ rs. counted_ranges f.verdict u.writes ++ rs) (committed_push ts es t e (omega arith))
    ∙ sym (append_assoc (counted_ranges f.verdict u.writes) (committed_ranges ts es) (counted_ranges e.verdict t.writes))

-- what holds of all ranges holds of those that count
pub all_counted : (P : Range → Type 0) (v : Verdict) (ranges : List Range) → All P ranges → All P (counted_ranges v ranges)
all_counted P Committed ranges all = all
all_counted P TooOld ranges all = All-nil P
all_counted P Conflict ranges all = All-nil P

module _ (keys : List (List ℕ)) (entire : List Entry) where
  -- The transactions ts are judged, with entries ds, and what the batch makes of us and es is still to come. The runs
  -- are those of the ranges of us.
  pub record JudgedTo (runs : List (ℕ × ℕ)) (marks : List Bool) (ts : List Txn) (ds : List Entry) (us : List Txn)
      (es : List Entry) : Type 0 where
    pub judged : ds ++ in_batches (committed_ranges ts ds) us es ≡ entire
    pub marked : AreWrittenGaps keys marks (committed_ranges ts ds)
    pub have_begins : All (HaveBegin keys) (committed_ranges ts ds)
    pub left : AreRunsOf keys runs (ranges_in us)

  module _ (runs : List (ℕ × ℕ)) (marks : List Bool) (ts us : List Txn) (ds es : List Entry) (t : Txn) (e : Entry)
      (so_far : JudgedTo runs marks ts ds (t ∷ us) (e ∷ es)) where
    left_split : AreRunsOf keys (take (length (ranges_of_txn t)) runs) (ranges_of_txn t)
        × AreRunsOf keys (drop (length (ranges_of_txn t)) runs) (ranges_in us)
    left_split = determined_split keys runs (ranges_of_txn t) (ranges_in us) so_far.left

    -- one more is judged, and what it writes is marked
    one_more_judged : (d : Entry) (new : List Bool) → length ts ≡ length ds
        → d ≡ in_batch (committed_ranges ts ds) t e
        → AreWrittenGaps keys new (committed_ranges ts ds ++ counted_ranges d.verdict t.writes)
        → JudgedTo (drop (length (ranges_of_txn t)) runs) new (ts ++ t ∷ []) (ds ++ d ∷ []) us es
    one_more_judged d new same is marked =
        let before = committed_ranges ts ds in
        let writes = committed_push ts ds t d same in
        let rest = λ (d : Entry). in_batches (before ++ counted_ranges d.verdict t.writes) us es in
        record {
          judged = ap (λ rs. (ds ++ d ∷ []) ++ in_batches rs us es) writes
              ∙ append_assoc ds (d ∷ []) (rest d)
              ∙ ap (λ (d : Entry). ds ++ d ∷ rest d) is
              ∙ so_far.judged;
          marked = rw writes marked;
          have_begins = rw writes (All-append (HaveBegin keys) before _ so_far.have_begins
              (all_counted (HaveBegin keys) d.verdict t.writes
              (all_split (HaveBegin keys) t.reads t.writes left_split.0.have_begins).1));
          left = left_split.1;
        }

  -- those below an index are judged
  abbrev pub JudgedBelow : ℕ → List (ℕ × ℕ) → List Bool → List Txn → List Entry → Type 0
  JudgedBelow i runs marks txns entries =
      JudgedTo runs marks (take i txns) (take i entries) (drop i txns) (drop i entries)

  module _ (i : ℕ) (runs : List (ℕ × ℕ)) (marks : List Bool) (txns : List Txn) (entries : List Entry)
      (so_far : JudgedBelow i runs marks txns entries) where
    module _ (t : Txn) (inside : i < length txns) (is_next : t ≡ get_or txns i t) where
      txns_left : drop i txns ≡ t ∷ drop (i + 1) txns
      txns_left = drop_more txns i t inside ∙ ap (λ u. u ∷ drop (i + 1) txns) (sym is_next)

      -- the runs of the next one
      pub next_determined : AreRunsOf keys (take (length (ranges_of_txn t)) runs) (ranges_of_txn t)
      next_determined =
          (determined_split keys runs (ranges_of_txn t) (ranges_in (drop (i + 1) txns)) (rw txns_left at so_far.left)).0

      -- there are as many runs
      pub next_within : length (ranges_of_txn t) ≤ length runs
      next_within =
          let few = determined_count keys (take (length (ranges_of_txn t)) runs) (ranges_of_txn t) next_determined in
          omega (arith, few, length-take (length (ranges_of_txn t)) runs)

      module _ (default : Entry) (same : length entries ≡ length txns) where
        abbrev e : Entry
        e = get_or entries i default

        next : JudgedTo runs marks (take i txns) (take i entries) (t ∷ drop (i + 1) txns) (e ∷ drop (i + 1) entries)
        next = rw (txns_left, drop_more entries i default (omega arith)) at so_far

        -- the next one is judged, after what is written so far
        pub next_judged : (d : Entry) (new : List Bool)
            → ((written : List Range) → AreWrittenGaps keys marks written → All (HaveBegin keys) written
            → d ≡ in_batch written t e)
            → ((written : List Range) → AreWrittenGaps keys marks written → All (HaveBegin keys) written
            → AreWrittenGaps keys new (written ++ counted_ranges d.verdict t.writes))
            → JudgedBelow (i + 1) (drop (length (ranges_of_txn t)) runs) new txns (set entries i d)
        next_judged d new judges marks_more =
            let before = committed_ranges (take i txns) (take i entries) in
            let txns_to : take (i + 1) txns ≡ take i txns ++ t ∷ [] =
            take_more txns i t inside ∙ ap (λ u. take i txns ++ u ∷ []) (sym is_next) in
            let entries_to = take_more_set entries i d (omega arith) in
            let entries_from = drop-set-lt (i + 1) entries i d (omega arith) in
            rw (txns_to, entries_to, entries_from) (one_more_judged _ _ _ _ _ _ _ _ next d new
            (omega (arith, length-take i txns, length-take i entries))
            (judges before so_far.marked so_far.have_begins) (marks_more before so_far.marked so_far.have_begins))

        -- one that the history doesn't let commit stays, and writes nothing
        pub closed_judged : (e.verdict ≡ Committed → ⊥)
            → JudgedBelow (i + 1) (drop (length (ranges_of_txn t)) runs) marks txns (set entries i e)
        closed_judged closed =
            next_judged e marks (λ written determined have. closed_entry written t e closed)
            (λ written determined have. no_more_written keys marks written _ (none_counted e.verdict t.writes closed) determined)

  -- once all are judged
  nothing_left : (written : List Range) (txns : List Txn) → in_batches written txns [] ≡ []
  nothing_left written [] = refl
  nothing_left written (t ∷ txns) = refl

  pub judged_all : (i : ℕ) (runs : List (ℕ × ℕ)) (marks : List Bool) (txns : List Txn) (entries : List Entry)
      → JudgedBelow i runs marks txns entries → length entries ≤ i → entries ≡ entire
  judged_all i runs marks txns entries so_far end =
      let written = committed_ranges (take i txns) (take i entries) in
      sym (ap (λ es. take i entries ++ in_batches written (drop i txns) es) (drop_all i entries end)
      ∙ ap (λ es. take i entries ++ es) (nothing_left written (drop i txns))
      ∙ append-nil (take i entries) ∙ take_all i entries end)
      ∙ so_far.judged
