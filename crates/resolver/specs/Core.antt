-- What a core is seen as, and when it is in a state of the reference resolver. This project's own.
use Rattle.std.specs.Prelude.{◌≡◌, ℕ, ◌<◌, ◌==◌, ◌&&◌, if◌then◌else◌, ℤ, pos, ◌-ℤ◌, ◌≤ℤ◌, int_le, ◌⊎◌, List, ◌++◌, length, All, Option, Some, None}
use Rattle.std.specs.Int.{int_max}
use Rattle.std.specs.Ordering.{int_eq}
use Rattle.keyspace.specs.declared.answer.Answer.{Answer}
use Rattle.keyspace.specs.declared.batch.Batch.{Batch}
use Rattle.keyspace.specs.declared.reply.Reply.{Reply}
use Rattle.keyspace.specs.Writes.{Write, writes}
use Rattle.keyspace.specs.Judged.{edge}
use Rattle.keyspace.specs.Processed.{version_of}
use Rattle.keyspace.specs.Found.{kept_reply}
use Rattle.keyspace.specs.Leaving.{Held, next_due}
use Rattle.keyspace.specs.Run.{State, process, admit, leave, answers_to}
use Rattle.chain.specs.Replies.{Kept, reply_of}
use Rattle.conflict.specs.ConflictSet.{SetState, Remembers, IsOverLimit}
use Rattle.limits.specs.declared.stop.Stop.{Stop}
use Rattle.resolver.specs.Owed.{OwedView, owed_to}

-- a core
pub record CoreState : Type 0 where
  -- the conflict set
  pub set : SetState
  -- the version of the batch processed last, or -1
  pub version : ℤ
  -- the batches that wait for their previous version, in order of arrival
  pub held : List Held
  -- the replies that may be asked for again
  pub kept : Kept
  -- the answers owed to each proxy, at its number, oldest first
  pub owed : List (List Answer)
  -- why it takes no more
  pub stop : Option Stop

-- the first list is a prefix of the second, which may be all of it
abbrev pub IsPrefix : {T : Type 0} → List T → List T → Type 0
IsPrefix {T} xs ys = (rest : List T) × (ys ≡ xs ++ rest)

-- the answers given so far to each proxy, by its number
abbrev pub Given : Type 0
Given = ℕ → List Answer

-- all answers made to the proxy: those given, and then those still owed
abbrev pub made_to : ℕ → Given → CoreState → List Answer
made_to proxy given core = given proxy ++ owed_to proxy core.owed

-- The core is in this state of the reference resolver. It has the same version and the same held batches, keeps the
-- replies that a repeat finds, remembers the committed writes, and has made the same answers.
pub record IsIn (state : State) (given : Given) (core : CoreState) : Type 0 where
  pub version : core.version ≡ version_of state.processed
  pub held : core.held ≡ state.held
  pub kept : (proxy : ℕ) (version : ℤ) → reply_of core.kept proxy version ≡ kept_reply state.processed proxy version
  pub remembers : Remembers core.set (writes state.processed)
  pub answers :
      (proxy : ℕ) → proxy < length core.owed → made_to proxy given core ≡ answers_to proxy state.answered

-- the core of these parts
abbrev pub core_of : SetState → ℤ → List Held → Kept → OwedView → Option Stop → CoreState
core_of set version held kept_reply owed stop =
    record { set = set; version = version; held = held; kept = kept_reply; owed = owed.answers; stop = stop }

-- what is kept after this reply: it, the proxy's others above the version received, and those of other proxies
abbrev pub kept_also : ℕ → ℤ → Reply → (ℕ → ℤ → Option Reply) → ℕ → ℤ → Option Reply
kept_also proxy received reply before p v =
    if (proxy == p) && int_eq reply.version v then Some reply
    else (if (proxy == p) && int_le v received then None else before p v)

-- what holds of every core
pub record IsCore (c : CoreState) : Type 0 where
  -- if it takes more, so does its conflict set
  pub takes_more : c.stop ≡ None → c.set.stop ≡ None
  -- the conflict set is no further than the version
  pub resolved : c.set.stop ≡ None → c.set.resolved ≤ℤ c.version
  -- and remembers some list of writes
  pub remembers : (ws : List Write) × Remembers c.set ws
  -- each batch held is of a proxy that the core knows
  pub known : All (λ h. h.0 < length c.owed) c.held
  -- no reply is kept of a version still to come
  pub past :
      (proxy : ℕ) (version : ℤ) (reply : Reply) → reply_of c.kept proxy version ≡ Some reply →
      version ≤ℤ c.version

-- a core that takes more remembers what was written as far back as its window, from its version
abbrev pub RemembersWindow : CoreState → Type 0
RemembersWindow core = core.stop ≡ None → core.set.map.edge ≤ℤ int_max (core.version -ℤ core.set.window) (pos 0)

-- what stays the same of a core, whatever is done to it
pub record Continues (old new : CoreState) : Type 0 where
  pub window : new.set.window ≡ old.set.window
  pub limit : new.set.map.limit ≡ old.set.map.limit
  pub proxies : length new.owed ≡ length old.owed

-- all answers of the one state were made, and no others than those of the other
pub record MadeBetween (before after : State) (given : Given) (core : CoreState) : Type 0 where
  pub all_before :
      (proxy : ℕ) → proxy < length core.owed →
      IsPrefix (answers_to proxy before.answered) (made_to proxy given core)
  pub no_others :
      (proxy : ℕ) → proxy < length core.owed →
      IsPrefix (made_to proxy given core) (answers_to proxy after.answered)

-- In this state the reference resolver processes the batch, which exceeds the limit: at its edge, the writes committed up
-- to it, its own included, may need too many boundaries. All answers before it were made, and no others.
pub record StopsIn (limit : ℕ) (window : ℤ) (now : State) (proxy : ℕ) (batch : Batch) (given : Given)
    (core : CoreState) : Type 0 where
  pub next : batch.previous ≡ version_of now.processed
  pub made : (other : ℕ) → other < length core.owed → made_to other given core ≡ answers_to other now.answered
  pub exceeds : IsOverLimit limit (edge window batch) (writes (process window proxy batch now).processed)

-- While the batches held in this state leave, one that leaves is processed and exceeds the limit.
pub record StopsAsTheyLeave (limit : ℕ) (window : ℤ) (first : State) (given : Given) (core : CoreState) : Type 0 where
  -- how many have left before it
  pub turns : ℕ
  pub batch : Held
  pub others : List Held
  pub leaves :
      next_due (version_of (leave turns window first).processed) (leave turns window first).held
      ≡ Some (batch, others)
  pub stops : StopsIn limit window (leave turns window first) batch.0 batch.1 given core

-- The core stopped at a batch that exceeds the limit: that of the step, or one that leaves after it.
abbrev pub StopsAtLimit : (limit : ℕ) (window : ℤ) (proxy : ℕ) (batch : Batch) (state : State) (given : Given)
    (core : CoreState) → Type 0
StopsAtLimit limit window proxy batch state given core =
    StopsIn limit window state proxy batch given core
    ⊎ StopsAsTheyLeave limit window (admit window proxy batch state) given core
