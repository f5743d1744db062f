-- What a worker does. This project's own.
use Rattle.std.specs.Prelude.{◌≡◌, ◌≢◌, ℕ, ◌≤◌, ◌⊎◌, Bool, true, false, List, ◌++◌, length, Option, None, Some, IfSome, option_to_list}
use Rattle.std.specs.Io.KnownBytes.{IsAtEnd}
use Rattle.keyspace.specs.declared.batch.Batch.{Batch}
use Rattle.keyspace.specs.declared.answer.Answer.{Answer}
use Rattle.lane.specs.declared.port.TheConstants.{MAX_SENT}
use Rattle.lane.specs.Lane.{PortView, IntakeView, PortContinues, IntakeContinues, HasEnded}
use Rattle.wire.specs.declared.error.WireError.{WireError}
use Rattle.wire.specs.declared.error.WireError.TheVariants as wire
use Rattle.wire.specs.NextFrame.{TakesFrame}
use Rattle.wire.specs.Batches.{GivesEach, IsFaultAt}
use Rattle.resolver.specs.declared.client.Client.{Client}
use Rattle.replay_output.specs.declared.options.style.Style.{Style}
use Rattle.replay_workers.specs.declared.worker.Assignment.{Assignment}
use Rattle.replay_workers.specs.declared.worker.Finished.{Finished}
use Rattle.replay_workers.specs.declared.worker.FileEnd.{FileEnd}
use Rattle.replay_workers.specs.declared.worker.FileEnd.TheVariants.{Reached, Fault, Leaves}
use Rattle.replay_workers.specs.declared.worker.Leftover.{Leftover}
use Rattle.replay_workers.specs.declared.worker.Leftover.TheVariants.{CutShort, Worn}
use Rattle.replay_workers.specs.Inbox.{KeepsLines}

-- the same client later: its ends are of the same lanes
pub record ClientContinues (old new : Client) : Type 0 where
  pub requests : PortContinues old.requests new.requests
  pub replies : IntakeContinues old.replies new.replies

-- the batch that could not be sent
abbrev pub batch_of : Leftover → Batch
batch_of (CutShort batch) = batch
batch_of (Worn batch) = batch

-- the fault that ended a file, and the batch that could not be sent
abbrev pub fault_of : FileEnd → Option WireError
fault_of Reached = None
fault_of (Fault e) = Some e
fault_of (Leaves leftover) = None

abbrev pub unsent_of : FileEnd → Option Batch
unsent_of Reached = None
unsent_of (Fault e) = None
unsent_of (Leaves leftover) = Some (batch_of leftover)

-- the answers ended before the file
abbrev pub was_cut_short : Leftover → Bool
was_cut_short (CutShort batch) = true
was_cut_short (Worn batch) = false

abbrev pub is_cut_short : FileEnd → Bool
is_cut_short Reached = false
is_cut_short (Fault e) = false
is_cut_short (Leaves leftover) = was_cut_short leftover

module _ {X : Type 0} (Gives : X → X → Batch → Type 0) (IsEnd : X → Type 0) (IsFault : X → WireError → Type 0) where
  -- What was sent before, and then the batches that a stream in this state gives, in order, is what is sent now. The batch given last may
  -- be unsent. If none is, and no fault was met, the stream is at its end.
  pub record SendsBatches (first : X) (before now : List Batch) (fault : Option WireError) (unsent : Option Batch) : Type 0 where
    pub batches : List Batch
    pub left : X
    pub sent : now ≡ before ++ batches
    pub frames : GivesEach Gives first left (batches ++ option_to_list unsent)
    pub all : fault ≡ None → unsent ≡ None → IsEnd left
    -- a fault other than these two is that of what is left
    pub first_fault : IfSome fault (λ e. e ≢ wire.Memory → e ≢ wire.Read → IsFault left e)

-- why the batch can't be sent: the answers have ended, or the lane takes no more
abbrev pub CannotSend : Leftover → PortView Batch → IntakeView Answer → Type 0
CannotSend (CutShort batch) requests replies = HasEnded replies
CannotSend (Worn batch) requests replies = (requests.closed ≡ true) ⊎ (MAX_SENT ≤ length requests.sent)

-- a fact of what is left over of a file
abbrev pub IfLeaves : FileEnd → (Leftover → Type 0) → Type 0
IfLeaves Reached P = Unit {0}
IfLeaves (Fault e) P = Unit {0}
IfLeaves (Leaves leftover) P = P leftover

-- How a worker leaves its request lane, which was closed or not before, by the batch that could not be sent. It closes the
-- lane. If a batch is unsent, either the answers had ended, and the lane is left as it was; or the lane takes no more.
abbrev pub LeavesLane : Bool → PortView Batch → Option Batch → Type 0
LeavesLane was requests None = requests.closed ≡ true
LeavesLane was requests (Some batch) =
    (requests.closed ≡ was) ⊎ ((requests.closed ≡ true) × (MAX_SENT ≤ length requests.sent))

module _ {X : Type 0} (Gives : X → X → Batch → Type 0) (IsEnd : X → Type 0) (IsFault : X → WireError → Type 0) where
  -- What a worker has done that was given this proxy's client, and a stream in this state. It sent the batches that it was given, and its
  -- lines are those of the answers that it took. It has closed its lane and taken answers to their end. `Kept` is true of the state that is
  -- left.
  pub record HasWorkedOver (Kept : X → Type 0) (style : Style) (proxy : ℕ) (first : X) (given : Client) (finished : Finished) : Type 0
    where
      pub client : ClientContinues given finished.client
      pub sends :
          SendsBatches Gives IsEnd IsFault first given.requests.sent finished.client.requests.sent finished.fault finished.unsent
      pub kept : Kept sends.left
      pub keeps :
          KeepsLines style proxy given.replies.taken finished.client.replies.taken finished.lines.items finished.lost
      pub leaves : LeavesLane given.requests.closed finished.client.requests finished.unsent
      pub ended : HasEnded finished.client.replies

-- the same of a reader with these bytes left
abbrev pub HasWorked : Style → ℕ → Option (List ℕ) → Client → Finished → Type 0
HasWorked = HasWorkedOver TakesFrame IsAtEnd IsFaultAt (λ _. Unit {0})

-- From the client that was given to the one that is returned, no batch was sent without admission while the share was used
-- up: right after each other batch, at most that many batches were unanswered.
pub record IsWithinShare (assignment : Assignment) (given : Client) (finished : Finished) : Type 0 where
  pub from : finished.most_unanswered.given.value ≡ given
  pub to : finished.most_unanswered.left.value ≡ finished.client
  pub proxy : finished.most_unanswered.proxy ≡ assignment.proxy
  pub within : finished.most_unanswered.count ≤ assignment.share
