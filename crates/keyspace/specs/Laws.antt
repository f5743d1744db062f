-- What holds of the definitions, whatever the batches are.
use Rattle.std.specs.Prelude.{
  ◌≡◌,
  ℕ,
  ◌+◌,
  ◌==◌,
  ℤ,
  ◌<ℤ◌,
  ◌≤ℤ◌,
  List,
  [],
  ◌∷◌,
  ◌++◌,
  length,
  filter,
  Some,
  None,
  All,
}
use Rattle.keyspace.specs.declared.batch.Batch.{Batch}
use Rattle.keyspace.specs.declared.reply.Reply.{Reply}
use Rattle.keyspace.specs.Processed.{version_of}
use Rattle.keyspace.specs.Writes.{Write}
use Rattle.keyspace.specs.Judged.{Judged}
use Rattle.keyspace.specs.Judge.{judge}
use Rattle.keyspace.specs.Chain.{IsChain}
use Rattle.keyspace.specs.Leaving.{Held, next_due}
use Rattle.keyspace.specs.Run.{Step, Finish, run, answers, part}

-- whatever was written and whatever the batch is, the plain scan gives a reply that is right
abbrev pub JudgeIsRight : Type 0
JudgeIsRight = (window : ℤ) (ws : List Write) (b : Batch) → Judged window ws b (judge window ws b)

-- and no other reply is
abbrev pub OnlyJudgeIsRight : Type 0
OnlyJudgeIsRight = (window : ℤ) (ws : List Write) (b : Batch) (r : Reply) → Judged window ws b r
    → r ≡ judge window ws b

-- what a run processes, in order, is a chain
abbrev pub RunsAreChains : Type 0
RunsAreChains = (window : ℤ) (log : List Step) → IsChain window (run window log).processed

-- The one that leaves is due. Of those held, none before it and none after it has a lesser previous version, and none
-- before it an equal one; the others stay, in their order.
pub record Leaves (version : ℤ) (held : List Held) (leaver : Held) (others : List Held) : Type 0 where
  pub before : List Held
  pub after : List Held
  pub held_is : held ≡ before ++ leaver ∷ after
  pub others_are : others ≡ before ++ after
  pub first : All (λ h. leaver.1.previous <ℤ h.1.previous) before
  pub least : All (λ h. leaver.1.previous ≤ℤ h.1.previous) after
  pub due : leaver.1.previous ≤ℤ version

-- `next_due` is the one that leaves, and none only if all wait for a version to come
pub record NextDueLeaves : Type 0 where
  pub some : (version : ℤ) (held : List Held) (leaver : Held) (others : List Held)
      → next_due version held ≡ Some (leaver, others) → Leaves version held leaver others
  pub none : (version : ℤ) (held : List Held) → next_due version held ≡ None
      → All (λ h. version <ℤ h.1.previous) held

-- after each step all that is held still waits for a version to come: enough turns were made
abbrev pub NothingHeldIsDue : Type 0
NothingHeldIsDue = (window : ℤ) (log : List Step)
    → All (λ h. version_of (run window log).processed <ℤ h.1.previous) (run window log).held

-- the batches of the proxy among those held
abbrev pub held_of : ℕ → List Held → List Held
held_of proxy held = filter (λ h. h.0 == proxy) held

-- in every run each proxy has one answer per batch taken from it, except for its held batches
abbrev pub EachBatchIsAnswered : Type 0
EachBatchIsAnswered = (window : ℤ) (log : List Step) (proxy : ℕ)
    → length (answers window log proxy) + length (held_of proxy (run window log).held)
    ≡ length (part log proxy)

-- after `Finish` none is held
abbrev pub NoneIsHeldAfterFinish : Type 0
NoneIsHeldAfterFinish = (window : ℤ) (log : List Step) → (run window (log ++ Finish ∷ [])).held ≡ []
