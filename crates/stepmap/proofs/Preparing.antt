-- What making room for ranges keeps.
use Rattle.std.proofs.Common.{◌≡◌, ℕ, ◌+◌, ◌*◌, ◌≤◌, ◌<◌, true, false, List, length, refl, sym, ◌∙◌, ap, subst, inl, inr, arith, tests}
use Rattle.std.specs.Prelude.{ℤ, nat_le, None}
use Rattle.keyspace.specs.Writes.{Write}
use Rattle.keys.proofs.callers.Booleans.{true_or_false}
use Rattle.stepmap.specs.Boundary.{AreBoundaries, value_at, AreUpTo}
use Rattle.stepmap.specs.StepMap.{Steps, AreSteps}
use Rattle.stepmap.specs.Limit.{HasRoomFor, after_round, made_room}
use Rattle.stepmap.specs.Covers.{SameFrom, Covers}
use Rattle.stepmap.specs.Rooted.{Ends, Rooted}
use Rattle.stepmap.specs.Counting.{live_count}
use Rattle.stepmap.proofs.Rounds.{front_rooted, round_keeps, round_ends}
use Rattle.stepmap.proofs.FewBoundaries.{few_boundaries}

pub record RoomKeeps (ranges : ℕ) (old new : Steps) : Type 0 where
  pub boundaries : AreBoundaries new.boundaries
  pub edge : new.edge ≡ old.edge
  pub limit : new.limit ≡ old.limit
  pub same : SameFrom old.edge (value_at old.boundaries) (value_at new.boundaries)
  pub newest : (version : ℤ) → AreUpTo version old.boundaries → AreUpTo version new.boundaries
  pub covers : (ws : List Write) → Covers (value_at old.boundaries) ws old.edge
      → Covers (value_at new.boundaries) ws new.edge
  pub rooted : (ws : List Write) → Rooted old ws → Rooted new ws
  pub untouched : HasRoomFor ranges old → new ≡ record old { ready = new.ready }
  pub front : ¬ HasRoomFor ranges old → new.round ≡ None
  pub ends : ¬ HasRoomFor ranges old → (ws : List Write) → Rooted old ws → Ends new.boundaries ws old.edge

fits : (n limit : ℕ) → nat_le n limit ≡ true → n ≤ limit
fits n limit h = grind (arith, tests)

unfit : (n limit : ℕ) → n ≤ limit → nat_le n limit ≡ false → ⊥
unfit n limit le h = grind (arith, tests)

pub room_if : (ranges : ℕ) (m : Steps) → nat_le (length m.boundaries + 2 * ranges) m.limit ≡ true
    → HasRoomFor ranges m
room_if ranges m h = fits (length m.boundaries + 2 * ranges) m.limit h

as_before : (ranges : ℕ) (m : Steps) → AreSteps m → HasRoomFor ranges m → RoomKeeps ranges m m
as_before ranges m h room = record {
  boundaries = h.boundaries;
  edge = refl;
  limit = refl;
  same = λ key bytes s le. (λ above. above, λ above. above);
  newest = λ version a. a;
  covers = λ ws covers. covers;
  rooted = λ ws r. r;
  untouched = λ _. refl;
  front = λ full. absurd (full room);
  ends = λ full. absurd (full room);
}

pub no_room_if : (ranges : ℕ) (m : Steps) → nat_le (length m.boundaries + 2 * ranges) m.limit ≡ false
    → ¬ HasRoomFor ranges m
no_room_if ranges m h room = unfit (length m.boundaries + 2 * ranges) m.limit room h

by_round : (ranges : ℕ) (m : Steps) → AreSteps m → ¬ HasRoomFor ranges m → RoomKeeps ranges m (after_round m)
by_round ranges m h none =
    let k = round_keeps m h in
    record {
      boundaries = k.steps.boundaries;
      edge = refl;
      limit = refl;
      same = k.same;
      newest = k.newest;
      covers = k.covers;
      rooted = λ ws r. k.rooted ws (front_rooted m ws r);
      untouched = λ room. absurd (none room);
      front = λ _. refl;
      ends = λ full ws r. round_ends m h ws r;
    }

pub room_keeps : (ranges : ℕ) (m : Steps) → AreSteps m → RoomKeeps ranges m (made_room ranges m)
room_keeps ranges m h =
    elim (true_or_false (nat_le (length m.boundaries + 2 * ranges) m.limit)) [
      | inl t ↦ rw t (as_before ranges m h (room_if ranges m t))
      | inr f ↦ rw f (by_round ranges m h (no_room_if ranges m f))
    ]

-- room that is there is there after making room
pub room_stays : (ranges : ℕ) (m : Steps) → HasRoomFor ranges m → HasRoomFor ranges (made_room ranges m)
room_stays ranges m room =
    elim (true_or_false (nat_le (length m.boundaries + 2 * ranges) m.limit)) [
      | inl t ↦ rw t room
      | inr f ↦ absurd (unfit (length m.boundaries + 2 * ranges) m.limit room f)
    ]

-- where there is no room even then, live writes are too many
pub full_bound : (ranges : ℕ) (m : Steps) → AreSteps m → ¬ HasRoomFor ranges (made_room ranges m)
    → (ws : List Write) → Rooted m ws → m.limit < 1 + 2 * (live_count m.edge ws + ranges)
full_bound ranges m h full ws r =
    let k = room_keeps ranges m h in
    let new = made_room ranges m in
    let ends = k.ends (λ room. full (room_stays ranges m room)) ws r in
    let few = few_boundaries new.boundaries ws m.edge k.boundaries ends in
    let limit = k.limit in
    let beyond = not_within (length new.boundaries + 2 * ranges) new.limit full in
    omega (arith, few, limit, beyond)
  where
    not_within : (n limit : ℕ) → ¬ (n ≤ limit) → limit < n
    not_within n limit h = omega arith

-- what is ready doesn't matter for the rest
pub prepare_keeps : (ranges : ℕ) (ready : List (ℕ × ℕ)) (old : Steps) → AreSteps old → (m new : Steps)
    → m ≡ made_room ranges old → new ≡ record m { ready = ready } → RoomKeeps ranges old new
prepare_keeps ranges ready old h m new is made =
    let k = room_keeps ranges old h in
    subst (RoomKeeps ranges old) (sym (made ∙ ap (λ (m : Steps). record m { ready = ready }) is)) (record {
      boundaries = k.boundaries;
      edge = k.edge;
      limit = k.limit;
      same = k.same;
      newest = k.newest;
      covers = k.covers;
      rooted = λ ws r. (let rooted = k.rooted ws r in record { each = rooted.each; passed = rooted.passed });
      untouched = λ room. ap (λ (m : Steps). record m { ready = ready }) (k.untouched room);
      front = k.front;
      ends = k.ends;
    })
