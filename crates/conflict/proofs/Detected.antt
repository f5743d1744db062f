-- What the judging of a batch and the writing of what it commits ensure together.
use Rattle.std.proofs.Common.{◌≡◌, ℕ, ◌+◌, ◌*◌, ◌<◌, List, [], ◌++◌, length, Err, refl, sym, ap, subst, ◌∙◌, arith, inl, inr}
use Rattle.std.specs.Prelude.{ℤ, ◌≤ℤ◌, Result, Ok, IsErrAnd, IfErr}
use Rattle.std.proofs.lemmas.Bool.{cases_lt}
use Rattle.keyspace.specs.declared.batch.Batch.{Batch}
use Rattle.keyspace.specs.declared.reply.Entry.{Entry}
use Rattle.keyspace.specs.declared.reply.Reply.{Reply}
use Rattle.keyspace.specs.storage.BatchRanges.{ranges_in}
use Rattle.keyspace.specs.Writes.{Write, at_version, committed_ranges}
use Rattle.keyspace.specs.Judge.{judge, judge_txns}
use Rattle.keyspace.specs.Judged.{edge, Judged}
use Rattle.keyspace.specs.Laws.{JudgeIsRight, OnlyJudgeIsRight}
use Rattle.keyspace.proofs.callers.Judging.{reply_same}
use Rattle.stepmap.specs.StepMap.{Steps}
use Rattle.stepmap.specs.Covers.{MapCovers}
use Rattle.stepmap.specs.Rooted.{Rooted}
use Rattle.stepmap.specs.Counting.{live_count}
use Rattle.stepmap.specs.Laws.{CountedAlong}
use Rattle.stepmap.specs.Limit.{HasRoomFor, made_room}
use Rattle.stepmap.specs.declared.error.StepError.{StepError}
use Rattle.stepmap.specs.declared.error.StepError.TheVariants as step
use Rattle.conflict.specs.declared.error.SetStop.{SetStop}
use Rattle.conflict.specs.declared.error.SetStop.TheVariants.{Memory, ArenaFull}
use Rattle.conflict.specs.declared.when_full.WhenFull.{WhenFull}
use Rattle.conflict.specs.declared.when_full.WhenFull.TheVariants.{Refuse}
use Rattle.conflict.specs.declared.union.UnitedSpan.{UnitedSpan}
use Rattle.conflict.specs.ConflictSet.{IsOverLimit, IsOverLimitUnited, with_edge, HasRoomToWrite, HasNoRoomToWrite, stop_of}
use Rattle.conflict.specs.Calls.{IsFull, Fails}
use Rattle.conflict.specs.Union.{IsUnion}
use Rattle.conflict.proofs.UnionWritten.{count, over_limit}

-- what holds of the error of a call holds where it is handed on
pub if_err : {T E : Type 0} (P Q : E → Type 0) (r : Result T E) → IsErrAnd r P → ((e : E) → P e → Q e) → IfErr r Q
if_err P Q (Ok value) is gives = tt
if_err P Q (Err e) is gives = gives e is

-- if a step map isn't full, there is room
pub room_unless : {X : Type 0} (n : ℕ) (m : Steps) → (¬ HasRoomFor n m → X) → ¬ X → HasRoomFor n m
room_unless n m full not_full =
    elim (cases_lt m.limit (length m.boundaries + 2 * n)) [
      | inl over ↦ absurd (not_full (full (λ room. omega (arith, room, over))))
      | inr room ↦ room
    ]

-- refused memory before anything is written
pub unchanged : (when_full : WhenFull) (window : ℤ) (old : Steps) (batch : Batch) (stop : SetStop) → stop ≡ Memory
    → Fails when_full window old old batch stop
unchanged when_full window old batch stop memory = record {
  covers = λ ws covers. covers;
  rooted = λ ws rooted. rooted;
  limit = refl;
  refused = λ refuse is. refl;
  full = λ is. absurd (not_both stop memory is);
  memory = λ is ws reply covers right. inl refl;
}
  where
    not_both : (stop : SetStop) → stop ≡ Memory → ¬ (stop ≡ ArenaFull)
    not_both Memory a b = absurd (cc)
    not_both ArenaFull a b = absurd (cc)

module _ (window : ℤ) (batch : Batch) (old : Steps) (entries : List Entry)
    (judged : (ws : List Write) → MapCovers old ws → entries ≡ judge_txns (edge window batch) ws [] batch.txns) where
  -- the reply with these entries is right
  pub right : JudgeIsRight → (reply : Reply) → reply.version ≡ batch.version → reply.entries ≡ entries
      → (ws : List Write) → MapCovers old ws → Judged window ws batch reply
  right is reply version same ws covers =
      subst (Judged window ws batch) (sym (reply_same reply (judge window ws batch) version (same ∙ judged ws covers)))
      (is window ws batch)

  -- and each right reply has them
  pub same_entries : OnlyJudgeIsRight → (ws : List Write) (reply : Reply) → MapCovers old ws → Judged window ws batch reply
      → entries ≡ reply.entries
  same_entries only ws reply covers is =
      judged ws covers ∙ sym (ap (λ (r : Reply). r.entries) (only window ws batch reply is))

  -- what they commit is united by the ranges of these spans
  module _ (only : OnlyJudgeIsRight) (along : CountedAlong) (late : edge window batch ≤ℤ batch.version)
      (spans : List UnitedSpan) (each : List (ℕ × ℕ))
      (one : IsUnion (ranges_in batch.txns) spans each (committed_ranges batch.txns entries)) where
    same : length spans ≡ length one.united
    same = sym (count (ranges_in batch.txns) spans each (committed_ranges batch.txns entries) one)

    pub has_room : HasRoomFor (length spans) (made_room (length spans) (with_edge (edge window batch) old))
        → HasRoomToWrite (with_edge (edge window batch) old) (committed_ranges batch.txns entries)
    has_room room =
        (one.united, one.unites, subst (λ n. HasRoomFor n (made_room n (with_edge (edge window batch) old))) same room)

    pub is_full : ¬ HasRoomFor (length spans) (made_room (length spans) (with_edge (edge window batch) old))
        → ((ws : List Write) → Rooted old ws → old.limit < 1 + 2 * (live_count (edge window batch) ws + length spans))
        → (ws : List Write) (reply : Reply) → MapCovers old ws → Rooted old ws → Judged window ws batch reply
        → IsFull window old ws batch reply
    is_full none bound ws reply covers rooted is =
        let es = same_entries only ws reply covers is in
        let over = bound ws rooted in
        record {
          over = subst (λ es. IsOverLimit old.limit (edge window batch) (ws ++ at_version batch.version (committed_ranges batch.txns es))) es
              (over_limit (ranges_in batch.txns) spans each (committed_ranges batch.txns entries) one along old.limit
              (edge window batch) batch.version ws late over);
          over_united = subst (λ es. IsOverLimitUnited old.limit (edge window batch) ws (committed_ranges batch.txns es)) es
              (one.united, one.unites, omega (arith, over, same));
          no_room = subst (λ es. HasNoRoomToWrite (with_edge (edge window batch) old) (committed_ranges batch.txns es)) es
              (one.united, one.unites, subst (λ n. ¬ HasRoomFor n (made_room n (with_edge (edge window batch) old))) same none);
        }

    -- the batch is refused
    pub refuses : (when_full : WhenFull)
        → ¬ HasRoomFor (length spans) (made_room (length spans) (with_edge (edge window batch) old))
        → ((ws : List Write) → Rooted old ws → old.limit < 1 + 2 * (live_count (edge window batch) ws + length spans))
        → Fails when_full window old old batch ArenaFull
    refuses when_full none bound = record {
      covers = λ ws covers. covers;
      rooted = λ ws rooted. rooted;
      limit = refl;
      refused = λ refuse is. refl;
      full = λ is. is_full none bound;
      memory = λ is ws reply covers right. inl refl;
    }

    -- the step map isn't prepared, for this reason
    pub stops : (when_full : WhenFull) (now : Steps) (error : StepError) (stop : SetStop) → stop ≡ stop_of error
        → ((ws : List Write) → MapCovers old ws → MapCovers now ws)
        → ((ws : List Write) → Rooted old ws → Rooted now ws)
        → now.limit ≡ old.limit
        → (when_full ≡ Refuse → HasRoomFor (length spans) (made_room (length spans) (with_edge (edge window batch) old)))
        → (error ≡ step.Full → ¬ HasRoomFor (length spans) (made_room (length spans) (with_edge (edge window batch) old)))
        → (¬ HasRoomFor (length spans) (made_room (length spans) (with_edge (edge window batch) old)) → error ≡ step.Full)
        → (error ≡ step.Full → (ws : List Write) → Rooted old ws
        → old.limit < 1 + 2 * (live_count (edge window batch) ws + length spans))
        → Fails when_full window old now batch stop
    stops when_full now step.Full stop is covers rooted limit fits none full bound = record {
      covers = covers;
      rooted = rooted;
      limit = limit;
      refused = λ refuse is. absurd (none refl (fits refuse));
      full = λ is. is_full (none refl) (bound refl);
      memory = λ memory. absurd (not_memory stop is memory);
    }
      where
        not_memory : (stop : SetStop) → stop ≡ ArenaFull → ¬ (stop ≡ Memory)
        not_memory Memory a b = absurd (cc)
        not_memory ArenaFull a b = absurd (cc)
    stops when_full now step.Memory stop is covers rooted limit fits none full bound = record {
      covers = covers;
      rooted = rooted;
      limit = limit;
      refused = λ refuse arena. absurd (not_full stop is arena);
      full = λ arena. absurd (not_full stop is arena);
      memory = λ memory ws reply before right.
          let made = made_room (length spans) (with_edge (edge window batch) old) in
          let room : HasRoomFor (length spans) made = room_unless (length spans) made full not_step in
          inr (subst (λ es. HasRoomToWrite (with_edge (edge window batch) old) (committed_ranges batch.txns es))
          (same_entries only ws reply before right) (has_room room));
    }
      where
        not_full : (stop : SetStop) → stop ≡ Memory → ¬ (stop ≡ ArenaFull)
        not_full Memory a b = absurd (cc)
        not_full ArenaFull a b = absurd (cc)

        not_step : ¬ (step.Memory ≡ step.Full)
        not_step e = absurd (cc)
