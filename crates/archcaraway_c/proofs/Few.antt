-- The reply to a batch is no longer than the batch allows.
use Rattle.std.proofs.Common.{ℕ, ◌+◌, ◌*◌, ◌≤◌, ℤ, true, false, cond, List, [], ◌∷◌, ◌++◌, length, subst, sym, arith}
use Rattle.std.specs.List.{sum_by}
use Rattle.std.proofs.lemmas.List.Sums.{sum_by-cons}
use Rattle.keys.specs.declared.range.Range.{Range}
use Rattle.keyspace.specs.declared.txn.Txn.{Txn}
use Rattle.keyspace.specs.declared.batch.Batch.{Batch}
use Rattle.keyspace.specs.declared.reply.Entry.{Entry}
use Rattle.keyspace.specs.declared.reply.Reply.{Reply}
use Rattle.keyspace.specs.declared.reply.Verdict.TheVariants.{TooOld, Committed}
use Rattle.keyspace.specs.Writes.{Write, counted_ranges}
use Rattle.keyspace.specs.Judged.{Judged, edge}
use Rattle.keyspace.specs.Judge.{is_too_old, is_in_conflict, is_hit, meets_earlier, places_from, hits_or_first, report, without_places, in_conflict_at, judge_txn, judge_txns}
use Rattle.keyspace.proofs.callers.Judging.{only_judge}
use Rattle.wire.proofs.callers.ReplyLengths.{hits_or_first_few, places_few}
use Rattle.archcaraway_c.specs.Bound.{most_entry_length}

-- the length of an entry
abbrev entry_length : Entry → ℕ
entry_length e = 3 + 2 * length e.places

-- no more places than read ranges, and none unless they are asked for
report_few : (ws : List Write) (earlier : List Range) (t : Txn)
    → 3 + 2 * length (report ws earlier t) ≤ most_entry_length t
report_few ws earlier t =
    elim t.marked as (λ b. 3 + 2 * length (cond b (hits_or_first (places_from 0 (is_hit ws t) t.reads)
    (places_from 0 (meets_earlier earlier) t.reads)) []) ≤ cond b (3 + 2 * length t.reads) 3) [
      | true ↦ omega (
        arith,
        hits_or_first_few (places_from 0 (is_hit ws t) t.reads)
            (places_from 0 (meets_earlier earlier) t.reads) (length t.reads)
            (places_few 0 (is_hit ws t) t.reads) (places_few 0 (meets_earlier earlier) t.reads),
      )
      | false ↦ omega arith
    ]

least : (t : Txn) → 3 ≤ most_entry_length t
least t = elim t.marked as (λ b. 3 ≤ cond b (3 + 2 * length t.reads) 3) [
  | true ↦ omega arith
  | false ↦ omega arith
]

entry_few : (edge : ℤ) (ws : List Write) (earlier : List Range) (t : Txn)
    → entry_length (judge_txn edge ws earlier t) ≤ most_entry_length t
entry_few edge ws earlier t =
    elim (is_too_old edge t) as (λ old. let e : Entry = cond old (without_places TooOld)
    (cond (is_in_conflict ws earlier t) (in_conflict_at (report ws earlier t))
    (without_places Committed)) in entry_length e ≤ most_entry_length t) [
      | true ↦ omega (arith, least t)
      | false ↦ elim (is_in_conflict ws earlier t) as
          (λ met. let e : Entry = cond met (in_conflict_at (report ws earlier t))
          (without_places Committed) in entry_length e ≤ most_entry_length t) [
            | true ↦ report_few ws earlier t
            | false ↦ omega (arith, least t)
          ]
    ]

entries_few : (oldest : ℤ) (ws : List Write) (before : List Range) (ts : List Txn)
    → sum_by entry_length (judge_txns oldest ws before ts) ≤ sum_by most_entry_length ts
entries_few oldest ws before [] = omega arith
entries_few oldest ws before (t ∷ ts) =
    let e = judge_txn oldest ws before t in
    let after = before ++ counted_ranges e.verdict t.writes in
    omega (
      arith,
      entry_few oldest ws before t,
      entries_few oldest ws after ts,
      sum_by-cons entry_length e (judge_txns oldest ws after ts),
      sum_by-cons most_entry_length t ts,
    )

pub judged_few : (window : ℤ) (ws : List Write) (b : Batch) (r : Reply) → Judged window ws b r
    → sum_by (λ e. 3 + 2 * length e.places) r.entries ≤ sum_by most_entry_length b.txns
judged_few window ws b r judged =
    subst (λ (x : Reply). sum_by entry_length x.entries ≤ sum_by most_entry_length b.txns)
    (sym (only_judge window ws b r judged)) (entries_few (edge window b) ws [] b.txns)
