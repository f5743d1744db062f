-- The reply to a batch that fits a frame fits one too.
use Rattle.std.proofs.Common.{◌≡◌, ℕ, ◌+◌, ◌*◌, ◌≤◌, ℤ, Bool, true, false, cond, List, [], ◌∷◌, ◌++◌, length, take, map, refl, sym, subst, arith}
use Rattle.std.specs.List.{flat_map}
use Rattle.std.specs.Int.{w64, cast_unsigned}
use Rattle.std.proofs.lemmas.List.{length-append}
use Rattle.byteorder.specs.Endian.{big_bytes}
use Rattle.byteorder.specs.Numbers.{length-bytes_high_first}
use Rattle.keys.specs.declared.range.Range.{Range}
use Rattle.keyspace.specs.declared.txn.Txn.{Txn}
use Rattle.keyspace.specs.declared.batch.Batch.{Batch}
use Rattle.keyspace.specs.declared.reply.Entry.{Entry}
use Rattle.keyspace.specs.declared.reply.Reply.{Reply}
use Rattle.keyspace.specs.declared.reply.Verdict.{Verdict}
use Rattle.keyspace.specs.declared.reply.Verdict.TheVariants.{Conflict, TooOld, Committed}
use Rattle.keyspace.specs.Writes.{Write, counted_ranges}
use Rattle.keyspace.specs.Judged.{Judged, edge}
use Rattle.keyspace.specs.Judge.{is_too_old, is_in_conflict, is_hit, meets_earlier, places_from, hits_or_first, report, without_places, in_conflict_at, judge_txn, judge_txns}
use Rattle.keyspace.proofs.callers.Judging.{only_judge}
use Rattle.wire.proofs.callers.ReplyLengths.{places_few, hits_or_first_few, entry_length}
use Rattle.wire.specs.declared.version.WireVersion.{WireVersion}
use Rattle.wire.specs.declared.version.WireVersion.TheVariants.{One, Two}
use Rattle.wire.specs.Fields.{RangeFields, EntryFields, range_fields, txn_fields, entry_fields, batch_fields, reply_fields}
use Rattle.wire.specs.Spelling.{key_text, ends_text, is_single_key, formed_text, range_text, txn_text, batch_body, entry_text, verdict_text, places_text, reply_body, signed_text, marks_text, header_text, IsShort}

-- no more places than read ranges
report_few : (ws : List Write) (earlier : List Range) (t : Txn)
    → length (report ws earlier t) ≤ length t.reads
report_few ws earlier t =
    elim t.marked as (λ b. length (cond b (hits_or_first (places_from 0 (is_hit ws t) t.reads)
    (places_from 0 (meets_earlier earlier) t.reads)) []) ≤ length t.reads) [
      | true ↦ hits_or_first_few (places_from 0 (is_hit ws t) t.reads)
          (places_from 0 (meets_earlier earlier) t.reads) (length t.reads)
          (places_few 0 (is_hit ws t) t.reads) (places_few 0 (meets_earlier earlier) t.reads)
      | false ↦ omega arith
    ]

entry_few : (edge : ℤ) (ws : List Write) (earlier : List Range) (t : Txn)
    → length (judge_txn edge ws earlier t).places ≤ length t.reads
entry_few edge ws earlier t =
    elim (is_too_old edge t) as (λ old. let e : Entry = cond old (without_places TooOld)
    (cond (is_in_conflict ws earlier t) (in_conflict_at (report ws earlier t))
    (without_places Committed)) in length e.places ≤ length t.reads) [
      | true ↦ omega arith
      | false ↦ elim (is_in_conflict ws earlier t) as
          (λ met. let e : Entry = cond met (in_conflict_at (report ws earlier t))
          (without_places Committed) in length e.places ≤ length t.reads) [
            | true ↦ report_few ws earlier t
            | false ↦ omega arith
          ]
    ]

key_least : (key : List ℕ) → 2 ≤ length (key_text key)
key_least key = omega (
  arith,
  length-append (big_bytes 2 (length key)) key,
  length-bytes_high_first 2 (length key),
)

ends_least : (range : RangeFields) → 4 ≤ length (ends_text range)
ends_least range =
    omega (
      arith,
      length-append (key_text range.begin) (key_text range.end),
      key_least range.begin,
      key_least range.end,
    )

formed_least : (range : RangeFields) → 3 ≤ length (formed_text range)
unfolding formed_text
formed_least range =
    elim (is_single_key range) as (λ b. 3 ≤ length
    (cond b (1 ∷ key_text range.begin) (0 ∷ ends_text range))) [
      | true ↦ omega (arith, key_least range.begin)
      | false ↦ omega (arith, ends_least range)
    ]

range_least : (v : WireVersion) (range : RangeFields) → 3 ≤ length (range_text v range)
range_least One range = omega (arith, ends_least range)
range_least Two range = formed_least range

ranges_least : (v : WireVersion) (ranges : List Range)
    → 3 * length ranges ≤ length (flat_map (range_text v) (map range_fields ranges))
ranges_least v [] = omega arith
ranges_least v (r ∷ rs) =
    omega (
      arith,
      length-append (range_text v (range_fields r)) (flat_map (range_text v) (map range_fields rs)),
      range_least v (range_fields r),
      ranges_least v rs,
    )

signed_length : (z : ℤ) → length (signed_text z) ≡ 8
signed_length z = length-bytes_high_first 8 (cast_unsigned w64 z)

txn_least : (v : WireVersion) (t : Txn) → 3 + 2 * length t.reads ≤ length (txn_text v (txn_fields t))
unfolding txn_text
txn_least v t =
    let f = txn_fields t in
    let reads = flat_map (range_text v) f.reads in
    let writes = flat_map (range_text v) f.writes in
    let read_count = big_bytes 2 (length f.reads) in
    let write_count = big_bytes 2 (length f.writes) in
    omega (
      arith,
      length-append (signed_text t.snapshot) (marks_text t.marked
          ++ (read_count ++ (write_count ++ (reads ++ writes)))),
      length-append (marks_text t.marked) (read_count ++ (write_count ++ (reads ++ writes))),
      length-append read_count (write_count ++ (reads ++ writes)),
      length-append write_count (reads ++ writes),
      length-append reads writes,
      signed_length t.snapshot,
      ranges_least v t.reads,
    )

entries_fit : (v : WireVersion) (edge : ℤ) (ws : List Write) (before : List Range) (ts : List Txn)
    → length (flat_map entry_text (map entry_fields (judge_txns edge ws before ts)))
    ≤ length (flat_map (txn_text v) (map txn_fields ts))
entries_fit v edge ws before [] = omega arith
entries_fit v edge ws before (t ∷ ts) =
    let e = judge_txn edge ws before t in
    let after = before ++ counted_ranges e.verdict t.writes in
    omega (
      arith,
      length-append (entry_text (entry_fields e))
          (flat_map entry_text (map entry_fields (judge_txns edge ws after ts))),
      length-append (txn_text v (txn_fields t)) (flat_map (txn_text v) (map txn_fields ts)),
      entry_length (entry_fields e),
      entry_few edge ws before t,
      txn_least v t,
      entries_fit v edge ws after ts,
    )

body_fits : (v : WireVersion) (b : Batch) (r : Reply)
    → length (flat_map entry_text (map entry_fields r.entries)) ≤ length
    (flat_map (txn_text v) (map txn_fields b.txns))
    → length (reply_body (reply_fields r)) ≤ length (batch_body v (batch_fields b))
unfolding reply_body batch_body
body_fits v b r h =
    let entries = flat_map entry_text (map entry_fields r.entries) in
    let txns = flat_map (txn_text v) (map txn_fields b.txns) in
    let entry_count = big_bytes 2 (length (map entry_fields r.entries)) in
    let txn_count = big_bytes 2 (length (map txn_fields b.txns)) in
    let header = header_text b.previous b.version b.received in
    omega (
      arith,
      length-append (signed_text r.version) (entry_count ++ entries),
      length-append entry_count entries,
      length-append header (txn_count ++ txns),
      length-append txn_count txns,
      length-append (signed_text b.previous) (signed_text b.version ++ signed_text b.received),
      length-append (signed_text b.version) (signed_text b.received),
      length-bytes_high_first 2 (length (map entry_fields r.entries)),
      length-bytes_high_first 2 (length (map txn_fields b.txns)),
      signed_length r.version,
      signed_length b.previous,
      signed_length b.version,
      signed_length b.received,
      h,
    )

pub reply_fits : (v : WireVersion) (window : ℤ) (ws : List Write) (b : Batch) (r : Reply)
    → Judged window ws b r
    → IsShort (batch_body v (batch_fields b)) → IsShort (reply_body (reply_fields r))
reply_fits v window ws b r judged short =
    let same = only_judge window ws b r judged in
    let fits : length (flat_map entry_text (map entry_fields r.entries))
    ≤ length (flat_map (txn_text v) (map txn_fields b.txns)) =
    subst (λ (x : Reply). length (flat_map entry_text (map entry_fields x.entries))
    ≤ length (flat_map (txn_text v) (map txn_fields b.txns))) (sym same)
    (entries_fit v (edge window b) ws [] b.txns) in
    omega (arith, body_fits v b r fits)
