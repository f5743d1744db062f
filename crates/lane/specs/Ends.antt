-- A token beside what its end counts.
use Rattle.std.specs.Prelude.{◌≡◌, ℕ, ◌+◌, ◌^◌, ◌<◌, ◌≤◌, true, false, [], length, Option, Some, None, IsSome, IfSome}
use Rattle.atomic_table.specs.Seated.{TableId}
use Rattle.atomic_table.specs.declared.shared.Seat.{Seat}
use Rattle.lane.specs.Ring.{new_port_knows}
use Rattle.lane.specs.declared.ring.PortKnows.{PortKnows}
use Rattle.lane.specs.declared.ring.Known.{Known}
use Rattle.lane.specs.declared.port.PortCounts.{PortCounts}
use Rattle.lane.specs.declared.intake.IntakeCounts.{IntakeCounts}

module _ {T : Type 0} where
  -- a token of a ring, which holds no slot
  pub record IsTokenOf (ring : TableId) (token : Seat (Option T) (Known T)) : Type 0 where
    pub ring_of : token.table_id ≡ ring
    pub words : ring.words ≡ 17
    pub some_slot : 0 < ring.slots
    pub no_slot : token.me.1 ≡ []

  -- a sending token knows the port's counts
  pub record AreSent (slots : ℕ) (v : Known T) (counts : PortCounts) : Type 0 where
    pub sends : v.sends ≡ true
    pub capacity : counts.capacity ≡ slots
    pub some_slot : 0 < slots
    pub sent : counts.sent ≡ length v.port.sent
    pub few : counts.sent ≤ 2 ^ 62
    pub closed : counts.closed ≡ v.port.closed
    pub seen_taken : counts.seen_taken ≡ v.port.seen_taken
    pub taken_sent : counts.seen_taken ≤ counts.sent
    pub bounded : counts.sent ≤ counts.seen_taken + counts.capacity

  -- a taking token knows the intake's counts
  pub record AreTaken (slots : ℕ) (v : Known T) (counts : IntakeCounts) : Type 0 where
    pub takes : v.takes ≡ true
    pub capacity : counts.capacity ≡ slots
    pub some_slot : 0 < slots
    pub taken : counts.taken ≡ length v.intake.taken
    pub seen_sent : counts.seen_sent ≡ v.intake.seen_sent
    pub seen_close : counts.seen_close ≡ v.intake.seen_close
    pub taken_sent : counts.taken ≤ counts.seen_sent
    pub few : counts.seen_sent ≤ 2 ^ 62

  -- the port's token between two calls
  pub record IsPort (ring : TableId) (token : Seat (Option T) (Known T)) (counts : PortCounts) : Type 0 where
    pub token_of : IsTokenOf ring token
    pub holds : token.me.0.port.holds ≡ false
    pub counted : AreSent ring.slots token.me.0 counts

  -- the intake's
  pub record IsIntake (ring : TableId) (token : Seat (Option T) (Known T)) (counts : IntakeCounts) : Type 0 where
    pub token_of : IsTokenOf ring token
    pub next : token.me.0.intake.next ≡ None
    pub counted : AreTaken ring.slots token.me.0 counts

  -- the port's token is there
  abbrev pub HasPort : TableId → Option (Seat (Option T) (Known T)) → PortCounts → Type 0
  HasPort ring token counts = IsSome token × IfSome token (λ t. IsPort ring t counts)

  -- what the port's token knows
  abbrev pub port_of : Option (Seat (Option T) (Known T)) → PortKnows T
  port_of None = new_port_knows
  port_of (Some token) = token.me.0.port
