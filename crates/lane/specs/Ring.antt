-- The ring that the two ends of a lane share, and the rule that its words, its slots and what is known of them keep.
use mathlib.Core.Option.{some}
use lib.ListN.{get_elem?}
use Rattle.std.specs.Prelude.{◌≡◌, ◌⊎◌, ℕ, ◌+◌, ◌%◌, ◌^◌, ◌<◌, ◌≤◌, Bool, true, false, if◌then◌else◌}
use Rattle.std.specs.Prelude.{List, [], length, slice_get, slice_index, Option, Some, None}
use Rattle.atomic_table.specs.Table.{State}
use Rattle.lane.specs.Lane.{IsPrefix, OneLog}
use Rattle.lane.specs.declared.ring.PortKnows.{PortKnows}
use Rattle.lane.specs.declared.ring.IntakeKnows.{IntakeKnows}
use Rattle.lane.specs.declared.ring.Known.{Known}

-- tail: how many items were sent, with the closing bit on top
abbrev pub tail_word : ℕ → Bool → ℕ
tail_word sent closed = sent + (if closed then 2 ^ 63 else 0)

module _ {T : Type 0} where
  -- what the two ends know, of a ring of n slots
  pub record Agree (port : PortKnows T) (intake : IntakeKnows T) (slots : ℕ) : Type 0 where
    -- the taken items are a prefix of the sent ones
    pub in_order : IsPrefix intake.taken port.sent
    pub bounded : length port.sent ≤ length intake.taken + slots
    pub few : length port.sent ≤ 2 ^ 62
    -- what an end has seen of the other isn't more than what is
    pub seen_taken : port.seen_taken ≤ length intake.taken
    pub seen_sent : intake.seen_sent ≤ length port.sent
    pub seen_close : intake.seen_close ≡ true → port.closed ≡ true
    pub taken_seen : length intake.taken ≤ intake.seen_sent
    pub all_seen : intake.seen_close ≡ true → intake.seen_sent ≡ length port.sent
    -- the intake holds the slot of the next item, with that item
    pub next : (x : T) → intake.next ≡ Some x → slice_get port.sent (length intake.taken) ≡ Some x
    -- what both did is one log
    pub one_log :
        OneLog port.log intake.log (length port.sent) port.looks (length intake.taken) intake.looks

  -- words and slots, where the two ends know so much
  pub record Stand (words : List ℕ) (homes : List (mathlib.Core.Option.Option (Option T))) (port : PortKnows T)
      (intake : IntakeKnows T) : Type 0 where
    pub count : length words ≡ 17
    pub head : slice_index words 0 ≡ length intake.taken
    pub tail : slice_index words 16 ≡ tail_word (length port.sent) port.closed
    pub agree : Agree port intake (length homes)
    -- The slot of each item, from the next one to be taken on and once round, has that item if it was sent, except the
    -- two that an end may hold.
    pub slots : (k : ℕ) → length intake.taken ≤ k → k < length intake.taken + length homes
        → (k ≡ length intake.taken → intake.next ≡ None) → (k ≡ length port.sent → port.holds ≡ false)
        → get_elem? homes (k % length homes) ≡ some (some (slice_get port.sent k))

  -- One token sends, and knows what the port knows. The first takes, and knows what the intake knows and how many
  -- others there are
  pub record Fits (port : PortKnows T) (intake : IntakeKnows T) (sender : ℕ) (tokens : ℕ) (token : ℕ) (v : Known T)
      : Type 0 where
    pub sends : v.sends ≡ true → (token ≡ sender) × (v.port ≡ port)
    pub takes : v.takes ≡ true → (token ≡ 0) × (v.intake ≡ intake) × (v.others + 1 ≡ tokens)

  -- The rule. The token that sends is the last one made, or the first: so an end alone neither cuts its token nor
  -- joins it to another, and what it has seen changes at its own loads alone
  pub record IsRing (state : State (Option T) (Known T)) : Type 0 where
    pub port : PortKnows T
    pub intake : IntakeKnows T
    pub sender : ℕ
    pub place : (sender ≡ 0) ⊎ (sender + 1 ≡ length state.views)
    pub each : (token : ℕ) (v : Known T) → get_elem? state.views token ≡ some v
        → Fits port intake sender (length state.views) token v
    pub stand : Stand state.words state.homes port intake

  abbrev pub new_port_knows : PortKnows T
  new_port_knows = record { sent = []; closed = false; seen_taken = 0; looks = 0; log = []; holds = false }

  abbrev pub new_intake_knows : IntakeKnows T
  new_intake_knows = record { taken = []; seen_sent = 0; seen_close = false; looks = 0; log = []; next = None }

  -- the token of a new ring, which both sends and takes
  abbrev pub at_first : Known T
  at_first = record { sends = true; takes = true; port = new_port_knows; intake = new_intake_knows; others = 0 }

  -- a token that neither sends nor takes
  abbrev pub idle : Known T
  idle = record at_first { sends = false; takes = false }

  -- a token that does both is cut: the one stays and takes, the new one sends
  abbrev pub that_takes : Known T → Known T
  that_takes v = record v { sends = false; others = v.others + 1 }

  abbrev pub that_sends : Known T → Known T
  that_sends v = record v { takes = false }

  -- the one that takes, once it has taken in the one that sends
  abbrev pub that_does_both : Known T → Known T → Known T
  that_does_both v w = record v { sends = true; port = w.port }
