-- The reply that is `Judged`, computed by a plain scan.
use Rattle.std.specs.Prelude.{
  ◌≡◌,
  ℕ,
  suc,
  ◌+◌,
  ◌≤◌,
  ℤ,
  Bool,
  ◌&&◌,
  ◌||◌,
  if◌then◌else◌,
  nat_lt,
  int_lt,
  List,
  [],
  ◌∷◌,
  ◌++◌,
  length,
  take,
  refl,
}
use Rattle.std.specs.List.{list_any}
use Rattle.std.proofs.Common.{ap, subst, sym}
use Rattle.keys.specs.declared.range.Range.{Range}
use Rattle.keyspace.specs.declared.txn.Txn.{Txn}
use Rattle.keyspace.specs.declared.batch.Batch.{Batch}
use Rattle.keyspace.specs.declared.reply.Verdict.{Verdict}
use Rattle.keyspace.specs.declared.reply.Verdict.TheVariants.{Conflict, TooOld, Committed}
use Rattle.keyspace.specs.declared.reply.Entry.{Entry}
use Rattle.keyspace.specs.declared.reply.Reply.{Reply}
use Rattle.keyspace.specs.declared.batch.TheConstants.{MAX_TXNS}
use Rattle.keys.specs.Range.{ranges_meet}
use Rattle.keyspace.specs.Writes.{Write, counted_ranges}
use Rattle.keyspace.specs.Judged.{edge}

abbrev pub is_too_old : ℤ → Txn → Bool
is_too_old oldest t = nat_lt 0 (length t.reads) && int_lt t.snapshot oldest

abbrev pub is_hit : List Write → Txn → Range → Bool
is_hit ws t range = list_any (λ w. ranges_meet range w.range && int_lt t.snapshot w.version) ws

abbrev pub meets_earlier : List Range → Range → Bool
meets_earlier written range = list_any (ranges_meet range) written

abbrev pub is_in_conflict : List Write → List Range → Txn → Bool
is_in_conflict ws written t = list_any (λ range. is_hit ws t range || meets_earlier written range) t.reads

-- the places, counted from i on, of the ranges that pass the test
abbrev pub places_from : ℕ → (Range → Bool) → List Range → List ℕ
places_from i test [] = []
places_from i test (range ∷ ranges) =
    if test range then i ∷ places_from (i + 1) test ranges else places_from (i + 1) test ranges

abbrev pub hits_or_first : List ℕ → List ℕ → List ℕ
hits_or_first [] met = take 1 met
hits_or_first (hit ∷ hits) met = hit ∷ hits

-- the places of a marked transaction in conflict
abbrev pub report : List Write → List Range → Txn → List ℕ
report ws written t =
    if t.marked
    then hits_or_first (places_from 0 (is_hit ws t) t.reads) (places_from 0 (meets_earlier written) t.reads)
    else []

abbrev pub without_places : Verdict → Entry
without_places verdict = record { verdict = verdict; places = []; only_conflict = λ _. refl }

abbrev pub in_conflict_at : List ℕ → Entry
in_conflict_at places = record {
  verdict = Conflict;
  places = places;
  only_conflict =
      λ other. absurd (other refl);
}

abbrev pub judge_txn : ℤ → List Write → List Range → Txn → Entry
judge_txn oldest ws written t =
    if is_too_old oldest t then without_places TooOld
    else (if is_in_conflict ws written t then in_conflict_at (report ws written t)
    else without_places Committed)

-- the ranges written by then, with those of this transaction where they count
abbrev pub written_with : ℤ → List Write → List Range → Txn → List Range
written_with oldest ws written t = written ++ counted_ranges (judge_txn oldest ws written t).verdict t.writes

-- in order, each after the writes of those before it
abbrev pub judge_txns : ℤ → List Write → List Range → List Txn → List Entry
judge_txns oldest ws written [] = []
judge_txns oldest ws written (t ∷ ts) =
    judge_txn oldest ws written t ∷ judge_txns oldest ws (written_with oldest ws written t) ts

-- one entry per transaction
pub length-judge_txns : (oldest : ℤ) (ws : List Write) (written : List Range) (ts : List Txn)
    → length (judge_txns oldest ws written ts) ≡ length ts
length-judge_txns oldest ws written [] = refl
length-judge_txns oldest ws written (t ∷ ts) =
    ap suc (length-judge_txns oldest ws (written_with oldest ws written t) ts)

-- the reply to b after the writes ws
abbrev pub judge : ℤ → List Write → Batch → Reply
judge window ws b = record {
  version = b.version;
  entries = judge_txns (edge window b) ws [] b.txns;
  natural = b.natural;
  few = subst (λ (n : ℕ). n ≤ MAX_TXNS) (sym (length-judge_txns (edge window b) ws [] b.txns)) b.few;
}
