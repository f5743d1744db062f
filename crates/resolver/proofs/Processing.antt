-- The core after one more batch is processed.
use Rattle.std.proofs.Common.{
  ◌≡◌,
  ℕ,
  ◌<◌,
  List,
  [],
  ◌∷◌,
  ◌++◌,
  length,
  Some,
  None,
  sym,
  ap,
  subst,
  ◌∙◌,
  arith,
}
use Rattle.std.specs.Prelude.{ℤ, ◌<ℤ◌, ◌≤ℤ◌, All}
use Rattle.std.proofs.lemmas.Int.{ints}
use Rattle.keyspace.specs.declared.answer.Answer.TheVariants as reported
use Rattle.keyspace.specs.declared.batch.Batch.{Batch}
use Rattle.keyspace.specs.declared.reply.Reply.{Reply}
use Rattle.keyspace.specs.Writes.{Write, writes, writes_of}
use Rattle.keyspace.specs.Judged.{edge}
use Rattle.keyspace.specs.Judge.{judge}
use Rattle.keyspace.specs.Processed.{Processed}
use Rattle.keyspace.specs.Run.{State, answer, process}
use Rattle.keyspace.proofs.callers.Chains.{version_of-more, writes-more}
use Rattle.chain.specs.Replies.{reply_of}
use Rattle.conflict.specs.ConflictSet.{Remembers, IsOverLimit}
use Rattle.resolver.specs.Owed.{owed_also}
use Rattle.resolver.specs.Core.{CoreState, Given, IsIn, IsCore, kept_also}
use Rattle.resolver.proofs.Answered.{made_also}
use Rattle.resolver.proofs.Kept.{kept_more, none_kept}

-- what the core is after a batch is processed and its reply is kept
pub record Processes (old : CoreState) (proxy : ℕ) (batch : Batch) (reply : Reply) (new : CoreState) : Type 0 where
  pub version : new.version ≡ batch.version
  pub held : new.held ≡ old.held
  pub kept : (p : ℕ) (v : ℤ) → reply_of new.kept p v
      ≡ kept_also proxy batch.received reply (reply_of old.kept) p v
  pub owed : new.owed ≡ owed_also proxy (reported.Reply reply) old.owed

-- no reply is kept of a version to come
pub absent_later : (core : CoreState) (proxy : ℕ) (version : ℤ) → IsCore core → core.version <ℤ version
    → reply_of core.kept proxy version ≡ None
absent_later core proxy version are later =
    none_kept (reply_of core.kept proxy version)
    (λ reply is. let past = are.past proxy version reply is in omega (arith, ints))

-- The core is in order with a later version, which the conflict set has reached, and with replies up to it.
pub IsCore-later : (old new : CoreState) → IsCore old → new.set.stop ≡ None → new.set.resolved ≡ new.version
    → ((ws : List Write) × Remembers new.set ws) → new.held ≡ old.held → length new.owed ≡ length old.owed
    → ((proxy : ℕ) (version : ℤ) (reply : Reply) → reply_of new.kept proxy version ≡ Some reply
    → version ≤ℤ new.version)
    → IsCore new
IsCore-later old new are takes_more reached remembers held proxies past = record {
  takes_more = λ _. takes_more;
  resolved = λ _. omega (arith, ints, reached);
  remembers = remembers;
  known =
      subst (λ hs. All (λ h. h.0 < length new.owed) hs) (sym held)
      (subst (λ n. All (λ h. h.0 < n) old.held) (sym proxies) are.known);
  past = past;
}

module _ (state : State) (given : Given) (old new : CoreState) (proxy : ℕ) (batch : Batch) where
  -- the state with a batch processed and answered by this reply
  abbrev processed_by : Reply → State
  processed_by reply =
      answer proxy (reported.Reply reply)
      (record state {
        processed = state.processed ++ record { proxy = proxy; batch = batch; reply = reply } ∷ [];
      })

  IsIn-processed_by : (reply : Reply) → IsIn state given old → proxy < length old.owed
      → reply_of old.kept proxy batch.version ≡ None → reply.version ≡ batch.version
      → Remembers new.set (writes state.processed ++ writes_of batch reply)
      → Processes old proxy batch reply new
      → IsIn (processed_by reply) given new
  IsIn-processed_by reply are known absent same remembers made =
      let p : Processed = record { proxy = proxy; batch = batch; reply = reply } in
      record {
        version = made.version ∙ sym (version_of-more state.processed p);
        held = made.held ∙ are.held;
        kept = λ q v.
            made.kept q v
            ∙ ap (λ before. kept_also proxy batch.received reply (λ _ _. before) q v) (are.kept q v)
            ∙ sym (kept_more p q v state.processed same (sym (are.kept proxy batch.version) ∙ absent));
        remembers = subst (Remembers new.set) (sym (writes-more state.processed p)) remembers;
        answers = made_also proxy (reported.Reply reply) given state old new.owed known made.owed are.answers;
      }

  pub IsIn-process : (window : ℤ) (reply : Reply) → IsIn state given old → proxy < length old.owed
      → reply_of old.kept proxy batch.version ≡ None → reply ≡ judge window (writes state.processed) batch
      → Remembers new.set (writes state.processed ++ writes_of batch reply)
      → Processes old proxy batch reply new
      → IsIn (process window proxy batch state) given new
  IsIn-process window reply are known absent is remembers made =
      subst (λ r. IsIn (processed_by r) given new) is
      (IsIn-processed_by reply are known absent (ap (λ r. r.version) is) remembers made)

-- writes that exceed the limit with those of a batch do so once it is processed
pub over_processed : (limit : ℕ) (window : ℤ) (state : State) (proxy : ℕ) (batch : Batch)
    → IsOverLimit limit (edge window batch)
    (writes state.processed ++ writes_of batch (judge window (writes state.processed) batch))
    → IsOverLimit limit (edge window batch) (writes (process window proxy batch state).processed)
over_processed limit window state proxy batch over =
    let reply = judge window (writes state.processed) batch in
    subst (IsOverLimit limit (edge window batch))
    (sym (writes-more state.processed (record { proxy = proxy; batch = batch; reply = reply }))) over
