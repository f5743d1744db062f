use Rattle.std.proofs.Common.{rules, w64, to_z, of_z, SFits, ◌≡◌, ◌+◌, ◌*◌, ◌<◌, ◌≤◌, ◌⊎◌, List, [], ◌++◌, length, map, Err, true, refl, ap, sym, subst, ◌∙◌, inl, inr, arith}
use Rattle.std.specs.Prelude.{◌≤ℤ◌}
use denote.Enum.Bare.{sameb}
use Rattle.conflict.specs.contracts.when_full.WhenFull.{the_type}
use Rattle.conflict.specs.declared.when_full.WhenFull.{WhenFull}
use Rattle.std.proofs.lemmas.Bool.{cases_lt}
use Rattle.std.proofs.lemmas.Int.{to_z-of_z}
use Rattle.keys.proofs.callers.Booleans.{not_both_ways}
use Rattle.keyspace.specs.storage.BatchRanges.{ranges_in}
use Rattle.keyspace.specs.Writes.{Write, at_version, committed_ranges, writes_of}
use Rattle.keyspace.specs.Judge.{judge_txns}
use Rattle.keyspace.specs.Judged.{edge}
use Rattle.stepmap.specs.StepMap.{Steps, lengths}
use Rattle.stepmap.specs.Covers.{MapCovers}
use Rattle.stepmap.specs.Rooted.{Ends, Rooted}
use Rattle.stepmap.specs.Counting.{live_count}
use Rattle.stepmap.specs.Laws.{IsWriting}
use Rattle.stepmap.specs.Limit.{HasRoomFor, made_room, after_prepare}
use Rattle.stepmap.specs.Sweeping.{rest, after_sweep}
use Rattle.stepmap.specs.declared.error.StepError.TheVariants as step
use Rattle.limits.specs.declared.settings.TheConstants.{MAX_LIMIT}
use Rattle.conflict.specs.declared.when_full.WhenFull.TheVariants.{Refuse}
use Rattle.conflict.specs.ConflictSet.{IsSwept, with_edge, HasRoomToWrite}
use Rattle.conflict.specs.InBatch.{in_batches}
use Rattle.conflict.specs.Pace.{after_writes, with_written, IsPaced}
use Rattle.conflict.specs.Union.{IsUnion}
use Rattle.conflict.proofs.Detected.{if_err, room_unless, unchanged, right, has_room, refuses, stops}
use Rattle.conflict.proofs.Edges.{edge_passed, edge_below}
use Rattle.conflict.proofs.JudgedBatch.{length-in_batches, changed_entire}
use Rattle.conflict.proofs.Paced.{written_all}
use Rattle.conflict.proofs.Swept.{since_raised, swept_on}
use Rattle.conflict.proofs.UnionWritten.{count, each_count, apart, ready_same}
use Rattle.conflict.proofs.detect.detect_conflicts.Goals.{
  After-spans-spans,
  After-write_spans,
  else-eq-via-then-eq+else-not-can_make_room,
  else-eq-via-else-eq,
}
use Rattle.conflict.proofs.detect.detect_conflicts.Goals as goal

pub judge_by_history-requires : goal.judge_by_history-requires
judge_by_history-requires c =
    let given = c.edge_at-edge.result in
    let fits : SFits w64 given = search rules in
    let version_fits : SFits w64 c.args.batch.now.version = search rules in
    record {
      late = subst (λ e. c.args.steps.now.edge ≤ℤ e)
          (sym (edge_passed c.args.window given c.args.batch.now c.ranges.window version_fits fits c.edge_at-edge.ensures.edge))
          c.requires.raised;
    }

pub judge_in_batch-requires-clause-ranked : goal.judge_in_batch-requires-clause-ranked
judge_in_batch-requires-clause-ranked c =
    let ranked = c.ranks-ranks.ensures.ranked in
    record {
      ranked_as = ranked.ranked_as;
      keys = ranked.keys;
      rising = ranked.rising;
      count = c.in_ok-reset.ensures.count ∙ c.begin_count.ensures.count ∙ ranked.count;
      have_begins = ranked.have_begins;
      are_runs = c.runs.ensures.runs ∙ ranked.are_runs;
      each = ranked.each;
      itself = ranked.itself;
    }

-- memory is refused before anything is written
pub returns-in_err-entries-clause-fails : goal.returns-in_err-entries-clause-fails
returns-in_err-entries-clause-fails c =
    if_err _ _ c.from_residual.result c.from_residual.ensures.1
    (λ stop is. unchanged c.args.when_full c.args.window c.args.steps.now c.args.batch.now stop is)

pub returns-in_err-reset-clause-fails : goal.returns-in_err-reset-clause-fails
returns-in_err-reset-clause-fails c =
    if_err _ _ c.from_residual-in_err-reset.result c.from_residual-in_err-reset.ensures.1
    (λ stop is. unchanged c.args.when_full c.args.window c.args.steps.now c.args.batch.now stop is)

pub returns-in_err-judge_in_batch-clause-fails : goal.returns-in_err-judge_in_batch-clause-fails
returns-in_err-judge_in_batch-clause-fails c =
    if_err _ _ c.from_residual-in_err-judge_in_batch.result c.from_residual-in_err-judge_in_batch.ensures.1
    (λ stop is. unchanged c.args.when_full c.args.window c.args.steps.now c.args.batch.now stop is)

pub returns-in_err-gather-clause-fails : goal.returns-in_err-gather-clause-fails
returns-in_err-gather-clause-fails c =
    if_err _ _ c.from_residual-in_err-gather.result c.from_residual-in_err-gather.ensures.1
    (λ stop is. unchanged c.args.when_full c.args.window c.args.steps.now c.args.batch.now stop is)

-- the edge, as it is passed on
edge_is : (c : After-spans-spans) → to_z w64 (of_z w64 c.edge_at-edge.result) ≡ edge c.args.window c.args.batch.now
edge_is c =
    let given = c.edge_at-edge.result in
    let fits : SFits w64 given = search rules in
    let version_fits : SFits w64 c.args.batch.now.version = search rules in
    edge_passed c.args.window given c.args.batch.now c.ranges.window version_fits fits c.edge_at-edge.ensures.edge

-- there are as many entries as transactions
entry_count : (c : After-spans-spans) → length c.judge_in_batch.new.entries ≡ length c.args.batch.now.txns
entry_count c =
    let txns = c.args.batch.now.txns in
    let es = c.in_ok-entries.entries in
    ap length (c.in_ok-judge_in_batch.ensures.judged ∙ ap (in_batches [] txns) c.deref_mut.ensures.value)
    ∙ length-in_batches [] txns es.items c.in_ok-entries.ensures.count

-- the vector was changed in place
items : (c : After-spans-spans) → c.deref.result.now ≡ c.judge_in_batch.new.entries
items c =
    let es = c.in_ok-entries.entries in
    c.deref.ensures.value
    ∙ changed_entire c.judge_in_batch.new.entries es.items es.len
    (entry_count c ∙ sym c.in_ok-entries.ensures.count ∙ sym es.ok.0)

judged : (c : After-spans-spans) → (ws : List Write) → MapCovers c.args.steps.now ws
    → c.judge_in_batch.new.entries ≡ judge_txns (edge c.args.window c.args.batch.now) ws [] c.args.batch.now.txns
judged c ws covers =
    let txns = c.args.batch.now.txns in
    c.in_ok-judge_in_batch.ensures.judged
    ∙ ap (in_batches [] txns) (c.deref_mut.ensures.value ∙ c.in_ok-entries.ensures.judged ws covers)
    ∙ sym (c.history_first.ensures.scan (to_z w64 (of_z w64 c.edge_at-edge.result)) ws [] txns)
    ∙ ap (λ oldest. judge_txns oldest ws [] txns) (edge_is c)

late : (c : After-spans-spans) → edge c.args.window c.args.batch.now ≤ℤ c.args.batch.now.version
late c = edge_below c.args.window c.args.batch.now c.requires.least_window

-- the spans are those of ranges that unite what is committed
union : (c : After-spans-spans) → IsUnion (ranges_in c.args.batch.now.txns) c.spans-spans.result.now
    c.gather.new.self.lengths.items (committed_ranges c.args.batch.now.txns c.judge_in_batch.new.entries)
union c =
    let txns = c.args.batch.now.txns in
    subst (λ spans. IsUnion (ranges_in txns) spans c.gather.new.self.lengths.items (committed_ranges txns c.judge_in_batch.new.entries))
    (sym c.spans-spans.ensures.spans)
    (subst (λ es. IsUnion (ranges_in txns) c.gather.new.self.union c.gather.new.self.lengths.items (committed_ranges txns es)) (items c)
    c.in_ok-gather.ensures.union)

pub gather-requires : goal.gather-requires
gather-requires c =
    let txns = c.args.batch.now.txns in
    let es = c.in_ok-entries.entries in
    let long = ap length (c.in_ok-judge_in_batch.ensures.judged ∙ ap (in_batches [] txns) c.deref_mut.ensures.value)
    ∙ length-in_batches [] txns es.items c.in_ok-entries.ensures.count in
    record {
      entries =
          ap length (c.deref.ensures.value
          ∙ changed_entire c.judge_in_batch.new.entries es.items es.len
          (long ∙ sym c.in_ok-entries.ensures.count ∙ sym es.ok.0))
          ∙ long;
    }

pub can_make_room-requires : goal.can_make_room-requires
can_make_room-requires c = record {
  late = subst (λ e. c.args.steps.now.edge ≤ℤ e) (sym (edge_is (goal.at.can_make_room-requires c).After-spans-spans))
      c.requires.raised;
}

pub raise-requires : goal.raise-requires
raise-requires c = record {
  late = subst (λ e. c.args.steps.now.edge ≤ℤ e) (sym (edge_is (goal.at.raise-requires c).After-spans-spans))
      c.requires.raised;
}

pub returns-then-not-can_make_room-clause-fails : goal.returns-then-not-can_make_room-clause-fails
returns-then-not-can_make_room-clause-fails c =
    let here = (goal.at.returns-then-not-can_make_room-clause-fails c).After-spans-spans in
    let n = length c.spans-spans.result.now in
    let is = edge_is here in
    let none = c.if-not-can_make_room.true in
    refuses c.args.window c.args.batch.now c.args.steps.now c.judge_in_batch.new.entries (judged here) c.one_reply.ensures.only
    c.counts.ensures.along (late here) c.spans-spans.result.now c.gather.new.self.lengths.items (union here) c.args.when_full
    (λ room. not_both_ways c.can_make_room.result (c.can_make_room.ensures.room.1
    (subst (λ e. HasRoomFor n (made_room n (with_edge e c.args.steps.now))) (sym is) room)) none)
    (λ ws rooted. subst (λ e. c.args.steps.now.limit < 1 + 2 * (live_count e ws + n)) is
    (c.can_make_room.ensures.bound (λ some. not_both_ways c.can_make_room.result some none) ws rooted))

pub returns-in_err-prepare-clause-fails : goal.returns-in_err-prepare-clause-fails
returns-in_err-prepare-clause-fails c =
    let here = (goal.at.returns-in_err-prepare-clause-fails c).After-spans-spans in
    let b = c.args.batch.now in
    let steps = c.args.steps.now in
    let spans = c.spans-spans.result.now in
    let each = c.gather.new.self.lengths.items in
    let entries = c.judge_in_batch.new.entries in
    let n = length spans in
    let e = edge c.args.window b in
    let is = edge_is here in
    let up : c.raise.new.self ≡ with_edge e steps = c.raise.ensures.map ∙ ap (λ e. with_edge e steps) is in
    let many : length c.lengths.result.now ≡ n =
    ap length c.lengths.ensures.lengths
    ∙ each_count (ranges_in b.txns) spans each (committed_ranges b.txns entries) (union here) in
    let error = c.in_err-prepare.field-0.0 in
    let none : error ≡ step.Full → ¬ HasRoomFor n (made_room n (with_edge e steps)) = λ same.
    subst (λ (m : Steps). ¬ HasRoomFor n (made_room n m)) up
    (subst (λ n. ¬ HasRoomFor n (made_room n c.raise.new.self)) many (c.in_err-prepare.ensures.full.0 (ap Err same))) in
    let full : ¬ HasRoomFor n (made_room n (with_edge e steps)) → error ≡ step.Full = λ none.
    let is_full = c.in_err-prepare.ensures.full.1 (subst (λ n. ¬ HasRoomFor n (made_room n c.raise.new.self)) (sym many)
    (subst (λ (m : Steps). ¬ HasRoomFor n (made_room n m)) (sym up) none)) in
    cc in
    let fits : c.args.when_full ≡ Refuse → HasRoomFor n (made_room n (with_edge e steps)) = λ refuse.
    let equal : sameb the_type c.args.when_full Refuse ≡ true =
    subst (λ (w : WhenFull). sameb the_type w Refuse ≡ true) (sym refuse) refl in
    elim c.else-eq.branch [
      | else-eq-via-then-eq+else-not-can_make_room w ↦
          subst (λ e. HasRoomFor n (made_room n (with_edge e steps))) is (w.can_make_room.ensures.room.0 w.if-not-can_make_room.false)
      | else-eq-via-else-eq w ↦ absurd (not_both_ways c.eq.result (c.eq.ensures ∙ equal) w.if-eq.false)
    ] in
    if_err _ _ c.from_residual-in_err-prepare.result c.from_residual-in_err-prepare.ensures.1
    (λ stop same. stops c.args.window b steps entries (judged here) c.one_reply.ensures.only c.counts.ensures.along (late here)
    spans each (union here) c.args.when_full c.prepare.new.self error stop same
    (λ ws covers. c.in_err-prepare.ensures.covers ws (c.raise.ensures.covers ws covers))
    (λ ws rooted. c.in_err-prepare.ensures.rooted ws (c.raise.ensures.rooted ws rooted))
    (c.in_err-prepare.ensures.limit ∙ ap (λ (m : Steps). m.limit) up) fits none full
    (λ same ws rooted. subst (λ n. steps.limit < 1 + 2 * (live_count e ws + n)) many
    (subst (λ (m : Steps). m.limit < 1 + 2 * (live_count m.edge ws + length c.lengths.result.now)) up
    (c.in_err-prepare.ensures.bound (ap Err same) ws (c.raise.ensures.rooted ws rooted)))))

pub write_spans-requires-clause-spanned : goal.write_spans-requires-clause-spanned
write_spans-requires-clause-spanned c =
    let one = union (goal.at.write_spans-requires-clause-spanned c).After-spans-spans in
    (one.united, one.spanned)

pub write_spans-requires-clause-apart : goal.write_spans-requires-clause-apart
write_spans-requires-clause-apart c =
    let b = c.args.batch.now in
    apart (ranges_in b.txns) c.spans-spans.result.now c.gather.new.self.lengths.items
    (committed_ranges b.txns c.judge_in_batch.new.entries) (union (goal.at.write_spans-requires-clause-apart c).After-spans-spans)

-- what a write of the first range requires, for all ranges that the spans name
pub write_spans-requires-clause-start : goal.write_spans-requires-clause-start
write_spans-requires-clause-start c = λ united spanned.
    let b = c.args.batch.now in
    let here = (goal.at.write_spans-requires-clause-start c).After-spans-spans in
    let spans = c.spans-spans.result.now in
    let each = c.gather.new.self.lengths.items in
    let all = committed_ranges b.txns c.judge_in_batch.new.entries in
    let fits : SFits w64 b.version = search rules in
    let turn = c.writing.ensures.in_turn united b.version (apart (ranges_in b.txns) spans each all (union here) united spanned) in
    let up = c.raise.ensures.map ∙ ap (λ e. with_edge e c.args.steps.now) (edge_is here) in
    let ready = ap (λ (m : Steps). m.ready) c.in_ok-prepare.ensures.ok ∙ c.lengths.ensures.lengths
    ∙ ready_same (ranges_in b.txns) spans each all (union here) united spanned in
    let edge_now = c.in_ok-prepare.ensures.edge ∙ ap (λ (m : Steps). m.edge) up in
    rw c.note_keys.ensures.same
    (subst (λ v. IsWriting united v 0 c.prepare.new.self c.prepare.new.self) (sym (to_z-of_z w64 b.version fits))
    (turn.start c.prepare.new.self c.in_ok-prepare.ensures.steps ready
    (c.in_ok-prepare.ensures.newest b.version (c.raise.ensures.newest b.version c.requires.newest))
    (subst (λ edge. edge ≤ℤ b.version) (sym edge_now) (late here))))

-- the united ranges are written at the batch's version
module _ (c : After-write_spans) (one : IsUnion (ranges_in c.args.batch.now.txns) c.spans-spans.result.now
    c.gather.new.self.lengths.items (committed_ranges c.args.batch.now.txns c.judge_in_batch.new.entries)) where
  exact : c.write_spans.new.steps ≡ after_writes one.united c.args.batch.now.version c.prepare.new.self
  exact =
      let version = c.args.batch.now.version in
      let fits : SFits w64 version = search rules in
      subst (λ v. c.write_spans.new.steps ≡ after_writes one.united v c.prepare.new.self) (to_z-of_z w64 version fits)
      (rw c.note_keys.ensures.same at c.write_spans.ensures.written one.united one.spanned)

  wrote : edge c.args.window c.args.batch.now ≤ℤ c.args.batch.now.version
      → c.raise.new.self ≡ with_edge (edge c.args.window c.args.batch.now) c.args.steps.now
      → IsWriting one.united c.args.batch.now.version (length one.united) c.prepare.new.self c.write_spans.new.steps
  wrote late up =
      let b = c.args.batch.now in
      let prepare = c.in_ok-prepare.ensures in
      let turn = c.writing.ensures.in_turn one.united b.version one.unites.apart in
      let ready = ap (λ (m : Steps). m.ready) prepare.ok ∙ c.lengths.ensures.lengths ∙ one.ready in
      let edge_now = prepare.edge ∙ ap (λ (m : Steps). m.edge) up in
      let start = turn.start c.prepare.new.self prepare.steps ready
      (prepare.newest b.version (c.raise.ensures.newest b.version c.requires.newest))
      (subst (λ edge. edge ≤ℤ b.version) (sym edge_now) late) in
      subst (IsWriting one.united b.version (length one.united) c.prepare.new.self) (sym exact)
      (written_all one.united b.version turn c.prepare.new.self start)

  -- the ranges were within the limit
  few : 2 * length c.spans-spans.result.now ≤ MAX_LIMIT
  few =
      let b = c.args.batch.now in
      let prepare = c.in_ok-prepare.ensures in
      let ready = ap (λ (m : Steps). length m.ready) prepare.ok ∙ ap length c.lengths.ensures.lengths
      ∙ each_count (ranges_in b.txns) c.spans-spans.result.now c.gather.new.self.lengths.items
      (committed_ranges b.txns c.judge_in_batch.new.entries) one in
      omega (arith, prepare.steps.within, prepare.steps.limit, ready)

pub overflow_mul-spans : goal.overflow_mul-spans
overflow_mul-spans c =
    let at = goal.at.overflow_mul-spans c in
    omega (arith, few at.After-write_spans (union at.After-spans-spans))

pub overflow_add-spans : goal.overflow_add-spans
overflow_add-spans c =
    let at = goal.at.overflow_add-spans c in
    omega (arith, few at.After-write_spans (union at.After-spans-spans))

-- there are as many entries as transactions
pub new-requires-2-clause-few : goal.new-requires-2-clause-few
new-requires-2-clause-few c =
    let here = (goal.at.new-requires-2-clause-few c).After-spans-spans in
    let as_entries : c.new.result ≡ c.judge_in_batch.new.entries =
    c.new.ensures.items ∙ sym c.deref.ensures.value ∙ items here in
    omega (arith, ap length as_entries, entry_count here, c.args.batch.now.few)

pub returns-clause-detects : goal.returns-clause-detects
returns-clause-detects c =
    let at = goal.at.returns-clause-detects c in
    let here = at.After-spans-spans in
    let b = c.args.batch.now in
    let txns = b.txns in
    let old = c.args.steps.now in
    let mid = c.write_spans.new.steps in
    let now = c.sweep.new.self in
    let reply = c.new-2.result in
    let entries = c.judge_in_batch.new.entries in
    let spans = c.spans-spans.result.now in
    let n = length spans in
    let e = edge c.args.window b in
    let fits : SFits w64 b.version = search rules in
    let one = union here in
    let is = edge_is here in
    let same_count : length one.united ≡ n = count (ranges_in txns) spans c.gather.new.self.lengths.items (committed_ranges txns entries) one in
    let up : c.raise.new.self ≡ with_edge e old = c.raise.ensures.map ∙ ap (λ e. with_edge e old) is in
    let prepare = c.in_ok-prepare.ensures in
    let many : length c.lengths.result.now ≡ n =
    ap length c.lengths.ensures.lengths
    ∙ each_count (ranges_in txns) spans c.gather.new.self.lengths.items (committed_ranges txns entries) one in
    let as_entries : reply.entries ≡ entries =
    c.new-2.ensures.entries ∙ c.new.ensures.items ∙ sym c.deref.ensures.value ∙ items here in
    let version : reply.version ≡ b.version = c.new-2.ensures.version ∙ to_z-of_z w64 b.version fits in
    let in_sequence = wrote at.After-write_spans one (late here) up in
    let written = (c.writing.ensures.in_turn one.united b.version one.unites.apart).entire (committed_ranges txns entries) c.prepare.new.self
    mid in_sequence one.unites in
    let exactly : mid ≡ with_written one.united b.version (with_edge e old) =
    exact at.After-write_spans one
    ∙ ap (after_writes one.united b.version) (prepare.ok ∙ ap (λ ls. after_prepare ls c.raise.new.self) (c.lengths.ensures.lengths ∙ one.ready)
    ∙ ap (after_prepare (map lengths one.united)) up) in
    let mid_edge : mid.edge ≡ e = in_sequence.edge ∙ prepare.edge ∙ ap (λ (m : Steps). m.edge) up in
    let swept_to : (ws : List Write) → Rooted old ws
    → Ends mid.boundaries (ws ++ at_version b.version (committed_ranges txns entries)) e
    ⊎ ((mid.round ≡ old.round) × (rest mid ≤ rest old + 2 * n)) = λ ws rooted.
    let raised_edge : c.raise.new.self.edge ≤ℤ b.version =
    subst (λ (m : Steps). m.edge ≤ℤ b.version) (sym up) (late here) in
    let swept : Ends mid.boundaries (ws ++ at_version b.version (committed_ranges txns entries)) c.raise.new.self.edge
    ⊎ ((mid.round ≡ c.raise.new.self.round) × (rest mid ≤ rest c.raise.new.self + 2 * n)) =
    elim (cases_lt c.raise.new.self.limit (length c.raise.new.self.boundaries + 2 * length c.lengths.result.now)) [
      | inl full ↦ inl (written.ends ws c.raise.new.self.edge raised_edge
          (prepare.ends (λ room. omega (arith, room, full)) ws (c.raise.ensures.rooted ws rooted)))
      | inr room ↦
          let same = prepare.untouched room in
          inr (
            in_sequence.round ∙ ap (λ (m : Steps). m.round) same,
            omega (arith, in_sequence.left, ap rest same, same_count),
          )
    ] in
    since_raised old c.raise.new.self mid e (ws ++ at_version b.version (committed_ranges txns entries)) n (ap (λ (m : Steps). m.edge) up)
    (ap (λ (m : Steps). m.round) up) (ap rest up) swept in
    let room : HasRoomFor n (made_room n (with_edge e old)) =
    subst (λ (m : Steps). HasRoomFor n (made_room n m)) up
    (subst (λ n. HasRoomFor n (made_room n c.raise.new.self)) many
    (room_unless (length c.lengths.result.now) (made_room (length c.lengths.result.now) c.raise.new.self) prepare.full.1 (λ same. absurd (cc)))) in
    record {
      judged = right c.args.window b old entries (judged here) c.one_reply.ensures.right reply version as_entries;
      covers = λ ws covers.
          c.sweep.ensures.covers (ws ++ writes_of b reply)
          (subst (λ es. MapCovers mid (ws ++ at_version b.version (committed_ranges txns es))) (sym as_entries)
          (written.covers ws (prepare.covers ws (c.raise.ensures.covers ws covers))));
      rooted = λ ws rooted.
          c.sweep.ensures.rooted (ws ++ writes_of b reply)
          (subst (λ es. Rooted mid (ws ++ at_version b.version (committed_ranges txns es))) (sym as_entries)
          (written.rooted ws (prepare.rooted ws (c.raise.ensures.rooted ws rooted))));
      swept = λ ws rooted.
          let all = ws ++ at_version b.version (committed_ranges txns entries) in
          let rooted_mid = written.rooted ws (prepare.rooted ws (c.raise.ensures.rooted ws rooted)) in
          subst (λ es. IsSwept e old now (ws ++ at_version b.version (committed_ranges txns es)) (committed_ranges txns es)) (sym as_entries)
          (swept_on e old mid now all (committed_ranges txns entries) n (one.united, one.unites, same_count) mid_edge (swept_to ws rooted)
          (c.sweep.ensures.ends_stay all e) c.sweep.result
          (λ round. c.sweep.ensures.ends round all rooted_mid) c.sweep.ensures.front c.sweep.ensures.fewer);
      paced = subst (λ es. IsPaced e b.version old now (committed_ranges txns es)) (sym as_entries) (
        one.united,
        one.unites,
        c.sweep.ensures.map ∙ ap (λ n. after_sweep (3 * n + 10) mid) (sym same_count)
            ∙ ap (after_sweep (3 * length one.united + 10)) exactly,
      );
      room = subst (λ es. HasRoomToWrite (with_edge e old) (committed_ranges txns es)) (sym as_entries)
          (has_room c.args.window b old entries (judged here) c.one_reply.ensures.only c.counts.ensures.along (late here) spans
          c.gather.new.self.lengths.items one room);
      newest = c.sweep.ensures.newest b.version in_sequence.newest;
      edge = ap (λ (m : Steps). m.edge) c.sweep.ensures.map ∙ mid_edge;
      limit = ap (λ (m : Steps). m.limit) c.sweep.ensures.map ∙ in_sequence.limit ∙ prepare.limit ∙ ap (λ (m : Steps). m.limit) up;
    }
