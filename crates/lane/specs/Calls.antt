-- What the calls on an end do, by what they answer (this project's own).
use Rattle.std.specs.Prelude.{◌≡◌, ◌+◌, ◌<◌, ◌≤◌, ◌↔◌, true, false, [], ◌∷◌, ◌++◌, length}
use Rattle.std.specs.Prelude.{Result, Err, IsOk, OnOk, OnErr, IfErr}
use Rattle.lane.specs.declared.moves.Move.TheVariants.{PortLook, IntakeLook}
use Rattle.lane.specs.Moves.{ContinuesBy, sent_by, taken_by}
use Rattle.lane.specs.Lane.{PortView, IntakeView, PortContinues, IntakeContinues, HasEnded, Lane, SeesWhatIs}
use Rattle.lane.specs.declared.port.TheConstants.{MAX_SENT}
use Rattle.lane.specs.declared.port.Refused.{Refused}
use Rattle.lane.specs.declared.port.Refused.TheVariants.{Full, Closed, Worn}
use Rattle.lane.specs.Refused.{item_of}
use Rattle.lane.specs.declared.intake.Taken.{Taken}
use Rattle.lane.specs.declared.intake.Taken.TheVariants.{End}
use Rattle.lane.specs.Taken.{items_of, IfEmpty, IfEnd}

module _ {T : Type 0} where
  -- The port has looked in this call, and has seen none of the last `capacity` items taken. The look is the last move of
  -- the log: at that moment the lane held `capacity` items.
  pub record FindsFull (old new : PortView T) : Type 0 where
    pub looks : old.looks < new.looks
    pub look : ContinuesBy PortLook old.log new.log
    pub seen : length new.sent ≡ new.seen_taken + new.capacity
    pub held : length new.sent ≡ taken_by new.log + new.capacity

  -- what a send of the item does
  pub record Sends (item : T) (result : Result (Unit {0}) (Refused T)) (old new : PortView T) : Type 0 where
    pub port : PortContinues old new
    pub closed_stays : new.closed ≡ old.closed
    pub sent : OnOk result (new.sent ≡ old.sent ++ item ∷ [])
    pub unchanged : OnErr result (new.sent ≡ old.sent)
    pub returned : IfErr result (λ refused. item_of refused ≡ item)
    -- the refusals in their order
    pub closed : (result ≡ Err (Closed item)) ↔ (old.closed ≡ true)
    pub worn : (result ≡ Err (Worn item)) ↔ ((old.closed ≡ false) × (MAX_SENT ≤ length old.sent))
    pub full : result ≡ Err (Full item) → FindsFull old new
    -- an open lane with room by what the port has seen taken refuses nothing but the item after the last
    pub room :
        old.closed ≡ false → length old.sent < MAX_SENT → length old.sent < old.seen_taken + old.capacity → IsOk result

  -- The intake has looked in this call, and has taken all that it has seen sent, with no close. The look is the last move
  -- of the log: at that moment all that was sent was taken.
  pub record FindsEmpty (old new : IntakeView T) : Type 0 where
    pub looks : old.looks < new.looks
    pub look : ContinuesBy IntakeLook old.log new.log
    pub seen : length new.taken ≡ new.seen_sent
    pub seen_close : new.seen_close ≡ false
    pub all_taken : sent_by new.log ≡ length new.taken

  -- what a take does, by what it answers
  pub record Takes (answer : Taken T) (old new : IntakeView T) : Type 0 where
    pub intake : IntakeContinues old new
    pub taken : new.taken ≡ old.taken ++ items_of answer
    pub empty : IfEmpty answer (FindsEmpty old new)
    pub end : IfEnd answer (HasEnded new)
    pub ended : HasEnded old → answer ≡ End

  -- The two ends of a lane meet in one call: *Lane* holds before and after it, and the port does nothing but look.
  pub record Meets (old_port : PortView T) (old_intake : IntakeView T) (new_port : PortView T) (new_intake : IntakeView T)
      : Type 0 where
    pub before : Lane old_port old_intake
    pub after : Lane new_port new_intake
    pub port : PortContinues old_port new_port
    pub sent : new_port.sent ≡ old_port.sent
    pub closed : new_port.closed ≡ old_port.closed
    pub looked : SeesWhatIs old_port old_intake new_port new_intake
