-- What is seen of the two ends of a lane, and *Lane*, which holds of them at every moment (this project's own).
use Rattle.std.specs.Prelude.{◌≡◌, ℕ, ◌+◌, ◌<◌, ◌≤◌, Bool, true, false, List, [], ◌++◌, length}
use Rattle.atomic_table.specs.Seated.{TableId}
use Rattle.lane.specs.declared.moves.Move.{Move}
use Rattle.lane.specs.Moves.{count, is_send, is_take, is_port_look, is_intake_look}

-- the first list is a prefix of the second, which may be all of it
abbrev pub IsPrefix : {T : Type 0} → List T → List T → Type 0
IsPrefix {T} xs ys = (rest : List T) × (ys ≡ xs ++ rest)

-- The logs of the port and of the intake are beginnings of one log, and each has all moves of that
-- end. That log has as many sends, takes and looks as there were. So an end can't say of a look that
-- it came before a move of the other end which it came after.
pub record OneLog (port intake : List Move) (sends port_looks takes intake_looks : ℕ) : Type 0 where
  pub log : List Move
  pub of_port : IsPrefix port log
  pub of_intake : IsPrefix intake log
  pub of_sends : (count is_send port ≡ sends) × (count is_send log ≡ sends)
  pub of_port_looks : (count is_port_look port ≡ port_looks) × (count is_port_look log ≡ port_looks)
  pub of_takes : (count is_take intake ≡ takes) × (count is_take log ≡ takes)
  pub of_intake_looks :
      (count is_intake_look intake ≡ intake_looks) × (count is_intake_look log ≡ intake_looks)

-- Which lane an end is of. A caller only ever compares two of them: what one is made of belongs to the
-- representation
pub record LaneId : Type 0 where
  pub ring : TableId

-- the port of a lane
pub record PortView (T : Type 0) : Type 0 where
  pub lane : LaneId
  pub capacity : ℕ
  pub sent : List T
  pub closed : Bool
  -- how many items it has seen taken
  pub seen_taken : ℕ
  -- how often it has looked at the intake
  pub looks : ℕ
  -- the moves of both ends up to its last look or send
  pub log : List Move

-- the intake of a lane
pub record IntakeView (T : Type 0) : Type 0 where
  pub lane : LaneId
  pub capacity : ℕ
  pub taken : List T
  -- how many items it has seen sent
  pub seen_sent : ℕ
  -- whether it has seen the close
  pub seen_close : Bool
  -- how often it has looked at the port
  pub looks : ℕ
  -- the moves of both ends up to its last look or take
  pub log : List Move

module _ {T : Type 0} where
  -- the two ends are of one lane
  pub record SameLane (port : PortView T) (intake : IntakeView T) : Type 0 where
    pub lane : port.lane ≡ intake.lane
    pub capacity : port.capacity ≡ intake.capacity

  -- *Lane*, of the two ends of one lane
  pub record Lane (port : PortView T) (intake : IntakeView T) : Type 0 where
    -- the taken items are a prefix of the sent ones
    pub in_order : IsPrefix intake.taken port.sent
    -- at most `capacity` items were sent and not taken
    pub bounded : length port.sent ≤ length intake.taken + port.capacity
    -- what an end has seen of the other isn't more than what is
    pub seen_taken : port.seen_taken ≤ length intake.taken
    pub seen_sent : intake.seen_sent ≤ length port.sent
    pub seen_close : intake.seen_close ≡ true → port.closed ≡ true
    -- an item is seen before it is taken
    pub taken_seen : length intake.taken ≤ intake.seen_sent
    -- if the close is seen, so are all sent items
    pub all_seen : intake.seen_close ≡ true → intake.seen_sent ≡ length port.sent
    -- what both did is one log
    pub one_log :
        OneLog port.log intake.log (length port.sent) port.looks (length intake.taken) intake.looks

  -- if an end has looked, it has seen the actual state
  pub record SeesWhatIs (old_port : PortView T) (old_intake : IntakeView T) (port : PortView T) (intake : IntakeView T)
      : Type 0 where
    pub taken : old_port.looks < port.looks → port.seen_taken ≡ length intake.taken
    pub sent : old_intake.looks < intake.looks → intake.seen_sent ≡ length port.sent
    pub close : old_intake.looks < intake.looks → intake.seen_close ≡ port.closed

  -- the ends of a new lane: nothing was sent, taken or seen
  abbrev pub new_port : LaneId → ℕ → PortView T
  new_port lane capacity =
      record { lane = lane; capacity = capacity; sent = []; closed = false; seen_taken = 0; looks = 0; log = [] }

  abbrev pub new_intake : LaneId → ℕ → IntakeView T
  new_intake lane capacity =
      record { lane = lane; capacity = capacity; taken = []; seen_sent = 0; seen_close = false; looks = 0; log = [] }

  -- the same port later: what it has seen, and how often it looked, doesn't fall
  pub record PortContinues (old new : PortView T) : Type 0 where
    pub lane : new.lane ≡ old.lane
    pub capacity : new.capacity ≡ old.capacity
    pub seen_taken : old.seen_taken ≤ new.seen_taken
    pub looks : old.looks ≤ new.looks

  -- the same intake later
  pub record IntakeContinues (old new : IntakeView T) : Type 0 where
    pub lane : new.lane ≡ old.lane
    pub capacity : new.capacity ≡ old.capacity
    pub seen_sent : old.seen_sent ≤ new.seen_sent
    pub seen_close : old.seen_close ≡ true → new.seen_close ≡ true
    pub looks : old.looks ≤ new.looks

  -- the intake has seen the close, and has taken all
  pub record HasEnded (intake : IntakeView T) : Type 0 where
    pub close : intake.seen_close ≡ true
    pub all : length intake.taken ≡ intake.seen_sent
