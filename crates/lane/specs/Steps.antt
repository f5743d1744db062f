-- What each step on a ring shows its end, and how the knowledge of its token changes.
use Rattle.std.specs.Prelude.{◌≡◌, ℕ, ◌+◌, ◌%◌, ◌^◌, ◌<◌, ◌≤◌, Bool, List, true, false, [], ◌∷◌, ◌++◌, length, slice_get, Option, Some, None}
use Rattle.atomic_table.specs.Table.{Me, rest}
use Rattle.lane.specs.declared.moves.Move.{Move}
use Rattle.lane.specs.declared.moves.Move.TheVariants.{Send, Take, PortLook, IntakeLook}
use Rattle.lane.specs.Moves.{ContinuesBy, sent_by, taken_by}
use Rattle.lane.specs.Ring.{Agree, tail_word}
use Rattle.lane.specs.declared.ring.PortKnows.{PortKnows}
use Rattle.lane.specs.declared.ring.IntakeKnows.{IntakeKnows}
use Rattle.lane.specs.declared.ring.Known.{Known}
use Rattle.lane.specs.declared.intake.Taken.{Taken}
use Rattle.lane.specs.declared.intake.Taken.TheVariants.{Item, Empty, End}

module _ {T : Type 0} where
  -- the port has loaded head, which was `found`, and its log is this one
  abbrev pub port_looked : PortKnows T → ℕ → List Move → PortKnows T
  port_looked p found log = record p { seen_taken = found; looks = p.looks + 1; log = log }

  pub record HeadLooked (slots : ℕ) (old : Me (Option T) (Known T)) (found : ℕ) (new : Me (Option T) (Known T))
      : Type 0 where
    pub looked : new ≡ (record old.0 { port = port_looked old.0.port found new.0.port.log }, old.1)
    -- the look is a move, before which this many items were taken
    pub continues : ContinuesBy PortLook old.0.port.log new.0.port.log
    pub moves : found ≡ taken_by new.0.port.log
    pub rises : old.0.port.seen_taken ≤ found
    pub taken_sent : found ≤ length old.0.port.sent
    pub bounded : length old.0.port.sent ≤ found + slots
    -- a token that takes too finds what it has taken
    pub all : old.0.takes ≡ true → found ≡ length old.0.intake.taken
    pub agree : old.0.takes ≡ true → Agree new.0.port old.0.intake slots

  -- the port holds the slot of the next item, which is empty
  pub record HoldsVacant (slots : ℕ) (me : Me (Option T) (Known T)) : Type 0 where
    pub held : me.1 ≡ (length me.0.port.sent % slots, None) ∷ rest me.1

  -- the port takes that slot
  pub record Claimed (slots : ℕ) (old : Me (Option T) (Known T)) (new : Me (Option T) (Known T)) : Type 0 where
    pub knows : new.0 ≡ record old.0 { port = record old.0.port { holds = true } }
    pub holds : HoldsVacant slots new
    pub others : rest new.1 ≡ old.1

  -- the port holds the slot of the next item, and the item in it
  pub record HoldsItem (slots : ℕ) (me : Me (Option T) (Known T)) : Type 0 where
    pub item : T
    pub held : me.1 ≡ (length me.0.port.sent % slots, Some item) ∷ rest me.1

  -- the port gives that slot back with the item, and has sent it
  abbrev pub port_sent : PortKnows T → T → List Move → PortKnows T
  port_sent p x log = record p { sent = p.sent ++ x ∷ []; log = log; holds = false }

  pub record Sent (slots : ℕ) (old : Me (Option T) (Known T)) (new : Me (Option T) (Known T)) : Type 0 where
    pub holds : HoldsItem slots old
    pub sent : new ≡ (record old.0 { port = port_sent old.0.port holds.item new.0.port.log }, rest old.1)
    pub continues : ContinuesBy Send old.0.port.log new.0.port.log

  -- a token of the port has sent the item, and knows nothing else that it did not know
  abbrev pub HasSent : T → Known T → Known T → Type 0
  HasSent item old new = new ≡ record old { port = port_sent old.port item new.port.log }

  pub record Closed (old : Me (Option T) (Known T)) (new : Me (Option T) (Known T)) : Type 0 where
    pub closed : new ≡ (record old.0 { port = record old.0.port { closed = true } }, old.1)

  -- the intake has loaded tail, which says how many items were sent, and the close or not
  abbrev pub intake_looked : IntakeKnows T → ℕ → Bool → List Move → IntakeKnows T
  intake_looked t sent closed log =
      record t { seen_sent = sent; seen_close = closed; looks = t.looks + 1; log = log }

  pub record TailLooked (slots : ℕ) (old : Me (Option T) (Known T)) (sent : ℕ) (closed : Bool)
      (new : Me (Option T) (Known T)) : Type 0 where
    pub few : sent ≤ 2 ^ 62
    pub looked : new ≡ (record old.0 { intake = intake_looked old.0.intake sent closed new.0.intake.log }, old.1)
    -- the look is a move, before which this many items were sent
    pub continues : ContinuesBy IntakeLook old.0.intake.log new.0.intake.log
    pub moves : sent ≡ sent_by new.0.intake.log
    pub rises : old.0.intake.seen_sent ≤ sent
    pub stays : old.0.intake.seen_close ≡ true → closed ≡ true
    pub taken_sent : length old.0.intake.taken ≤ sent
    -- a token that sends too finds what it has sent, and learns that the two agree
    pub all_sent : old.0.sends ≡ true → sent ≡ length old.0.port.sent
    pub close : old.0.sends ≡ true → closed ≡ old.0.port.closed
    pub agree : old.0.sends ≡ true → Agree old.0.port old.0.intake slots
    pub agree_after : old.0.sends ≡ true → Agree old.0.port new.0.intake slots

  pub record TailFound (slots : ℕ) (old : Me (Option T) (Known T)) (found : ℕ) (new : Me (Option T) (Known T))
      : Type 0 where
    pub sent : ℕ
    pub closed : Bool
    pub word : found ≡ tail_word sent closed
    pub looked : TailLooked slots old sent closed new

  -- the intake holds the slot of the next item, and the item in it
  pub record HoldsNext (slots : ℕ) (me : Me (Option T) (Known T)) : Type 0 where
    pub item : T
    pub next : me.0.intake.next ≡ Some item
    pub held : me.1 ≡ (length me.0.intake.taken % slots, Some item) ∷ rest me.1

  -- the intake takes that slot
  pub record Found (slots : ℕ) (old : Me (Option T) (Known T)) (new : Me (Option T) (Known T)) : Type 0 where
    pub holds : HoldsNext slots new
    pub knows : new.0 ≡ record old.0 { intake = record old.0.intake { next = Some holds.item } }
    pub others : rest new.1 ≡ old.1
    -- a token that sends too finds what it has sent
    pub sent : old.0.sends ≡ true → slice_get old.0.port.sent (length old.0.intake.taken) ≡ Some holds.item

  -- the intake holds the slot of the next item, and has emptied it
  pub record HoldsEmpty (slots : ℕ) (me : Me (Option T) (Known T)) : Type 0 where
    pub item : T
    pub next : me.0.intake.next ≡ Some item
    pub held : me.1 ≡ (length me.0.intake.taken % slots, None) ∷ rest me.1

  -- the intake gives that slot back, and has taken the item
  abbrev pub intake_took : IntakeKnows T → T → List Move → IntakeKnows T
  intake_took t x log = record t { taken = t.taken ++ x ∷ []; log = log; next = None }

  pub record Took (slots : ℕ) (old : Me (Option T) (Known T)) (new : Me (Option T) (Known T)) : Type 0 where
    pub holds : HoldsEmpty slots old
    pub took : new ≡ (record old.0 { intake = intake_took old.0.intake holds.item new.0.intake.log }, rest old.1)
    pub continues : ContinuesBy Take old.0.intake.log new.0.intake.log
    -- a token that sends too learns that the two agree
    pub agree : old.0.sends ≡ true → Agree old.0.port new.0.intake slots

  -- the next item that was seen sent, or else whether the lane is at its end
  abbrev pub NextOf : ℕ → Known T → Known T → Taken T → Type 0
  NextOf slots v w (Item x) = (w ≡ record v { intake = intake_took v.intake x w.intake.log })
      × (length v.intake.taken < v.intake.seen_sent)
      × (v.sends ≡ true → slice_get v.port.sent (length v.intake.taken) ≡ Some x)
      × (v.sends ≡ true → Agree v.port w.intake slots)
  NextOf slots v w Empty = (w ≡ v) × (length v.intake.taken ≡ v.intake.seen_sent) × (v.intake.seen_close ≡ false)
  NextOf slots v w End = (w ≡ v) × (length v.intake.taken ≡ v.intake.seen_sent) × (v.intake.seen_close ≡ true)
