-- A step map that is made for a set which starts at a version has room for one write, and is up to that version.
use Rattle.std.proofs.Common.{◌≡◌, ℕ, ◌+◌, ◌*◌, ◌≤◌, cond, true, false, nat_le, [], length, refl, sym, subst, arith}
use Rattle.std.specs.Prelude.{ℤ, pos, negsuc, ◌≤ℤ◌, ◌<ℤ◌, ◌-ℤ◌, int_lt, List}
use Rattle.std.specs.Int.{int_max}
use Rattle.std.proofs.lemmas.Int.{ints}
use Rattle.stepmap.specs.Boundary.{Boundary, AreUpTo}
use Rattle.stepmap.specs.StepMap.{Steps, new_map}
use Rattle.stepmap.specs.Limit.{HasRoomFor, after_round, made_room}
use Rattle.keyspace.specs.Writes.{with_write}
use Rattle.conflict.specs.ConflictSet.{with_edge}
use Rattle.conflict.specs.Unknown.{every_key, unknown_until}

pub up_to_later : (version later : ℤ) (bs : List Boundary) → version ≤ℤ later → AreUpTo version bs → AreUpTo later bs
up_to_later version later bs late up = λ k d within. let h = up k d within in omega (arith, ints, late, h)

pub room_to_start : (limit : ℕ) (edge : ℤ) (m : Steps) → m ≡ with_edge edge (new_map limit) → 3 ≤ limit → HasRoomFor 1 m
room_to_start limit edge m is enough = subst (HasRoomFor 1) (sym is) (omega (arith, enough))

le_test : (a b : ℕ) → a ≤ b → nat_le a b ≡ true
le_test a b h = grind (arith, h)

-- if there is room, none has to be made
pub has_made_room : (ranges : ℕ) (m : Steps) → HasRoomFor ranges m → HasRoomFor ranges (made_room ranges m)
has_made_room ranges m room =
    subst (λ test. HasRoomFor ranges (cond test m (after_round m)))
    (sym (le_test (length m.boundaries + 2 * ranges) m.limit room)) room

-- only -1 is below 0
pub minus_one : (version : ℤ) → negsuc 0 ≤ℤ version → version <ℤ pos 0 → negsuc 0 ≡ version
minus_one version least below = grind (arith, ints, least, below)

-- the others are from 0 on
pub natural_from_test : (version : ℤ) → int_lt version (pos 0) ≡ false → pos 0 ≤ℤ version
natural_from_test version test = grind (arith, ints, test)

-- the edge of a version is natural, and no greater than the version
pub edge_natural : (version window : ℤ) → pos 0 ≤ℤ int_max (version -ℤ window) (pos 0)
edge_natural version window = grind (arith, ints)

pub edge_at_most : (version window : ℤ) → pos 1 ≤ℤ window → pos 0 ≤ℤ version
    → int_max (version -ℤ window) (pos 0) ≤ℤ version
edge_at_most version window least natural = grind (arith, ints, least, natural)

-- one write of every key is the unknown history
pub written_unknown : (version : ℤ) → pos 0 ≤ℤ version → with_write [] every_key version ≡ unknown_until version
written_unknown (pos n) natural = refl
written_unknown (negsuc n) natural = absurd (omega (arith, ints, natural))
