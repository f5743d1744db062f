-- A proxy's ends of its lanes, and how many of its batches are unanswered as it sends. This project's own.
use Rattle.std.specs.Prelude.{◌≡◌, ℕ, ◌<◌, length}
use Rattle.keyspace.specs.declared.batch.Batch.{Batch}
use Rattle.keyspace.specs.declared.answer.Answer.{Answer}
use Rattle.replay_workers.specs.declared.shares.reported_state.Stand.{Stand}
use Rattle.replay_workers.specs.Share.{unanswered}
use Rattle.lane.specs.Lane.{PortView, IntakeView, PortContinues, IntakeContinues}
use Rattle.replay_workers.specs.declared.ends.Ends.{Ends}

-- the same ends later
pub record EndsContinue (old new : Ends) : Type 0 where
  pub requests : PortContinues old.requests new.requests
  pub replies : IntakeContinues old.replies new.replies
  pub given : new.given.value ≡ old.given.value
  pub proxy : new.proxy ≡ old.proxy
  pub share : new.share ≡ old.share

-- the request lane wasn't used
pub record SendsNothing (old new : Ends) : Type 0 where
  pub requests : new.requests ≡ old.requests
  pub most : new.most ≡ old.most

-- the number of batches that these ends have sent and that aren't answered yet
abbrev pub unanswered_of : Ends → ℕ
unanswered_of ends = unanswered (length ends.requests.sent) (length ends.replies.taken)

-- by what these ends have sent and taken, the share isn't used up
abbrev pub IsBelowShare : ℕ → PortView Batch → IntakeView Answer → Type 0
IsBelowShare share requests replies = unanswered (length requests.sent) (length replies.taken) < share

-- the report with this batch ready
abbrev pub stand_with : Batch → IntakeView Answer → Stand
stand_with batch replies = record { previous = batch.previous; answered = length replies.taken }
