use Rattle.std.proofs.Common.{arith, ◌≡◌, ◌+◌, ◌*◌, ◌^◌, ◌<◌, length, refl, true, sym, ◌∙◌, ap}
use Rattle.std.specs.Prelude.{is_ok}
use Rattle.boundaries.specs.declared.store.Store.{Store}
use Rattle.boundaries.specs.Stored.{Stored}
use Rattle.boundaries.proofs.StoredTrees.{ok_holds, stored_still, stored_wider}
use Rattle.boundaries.proofs.boundary_list.Boundaries.reserve.Goals as goal

pub invariant_of-self : goal.invariant_of-self
invariant_of-self c = c.self.invariant

pub invariant_of-self-in_err-map_err : goal.invariant_of-self-in_err-map_err
invariant_of-self-in_err-map_err c =
    let tree = c.self.inside.tree in
    let store : Store = record tree.store { keys = c.reserve.new.self } in
    stored_still tree store c.self.inside.room c.self.invariant c.reserve.ensures.records refl c.self.invariant.none_removed (omega arith)

pub invariant_of-self-in_err-map_err-2 : goal.invariant_of-self-in_err-map_err-2
invariant_of-self-in_err-map_err-2 c =
    let tree = c.self.inside.tree in
    let store : Store = record tree.store { keys = c.reserve.new.self; nodes = c.reserve_slots.new.self } in
    stored_still tree store c.self.inside.room c.self.invariant c.reserve.ensures.records c.reserve_slots.ensures.records
    c.self.invariant.none_removed c.reserve_slots.ensures.spare_stays

pub invariant_of-self-then-room-self : goal.invariant_of-self-then-room-self
invariant_of-self-then-room-self c =
    let tree = c.self.inside.tree in
    let nodes = c.reserve_slots.new.self in
    let store : Store = record tree.store { keys = c.reserve.new.self; nodes = nodes } in
    let went : is_ok c.reserve_slots.result ≡ true = sym c.map_err-then-room-self.ensures.variant ∙ ap is_ok c.in_ok-map_err-2.was in
    let seen = ap (λ (s : Stored). length s.boundaries) c.self.view_is in
    let few : c.len.result + 2 * length c.args.lengths.now < 2 ^ 64 = omega (arith, c.requires.few, c.len.ensures.len, seen) in
    let room = ok_holds c.reserve_slots.result went c.reserve_slots.ensures.room in
    stored_wider tree store c.self.inside.room c.self.invariant c.reserve.ensures.records c.reserve_slots.ensures.records
    c.self.invariant.none_removed _ (omega (arith, c.if-room-self.true)) few
    (omega (arith, room, c.saturating_sub-missing.ensures, c.live.ensures.count))

pub invariant_of-self-else-room-self : goal.invariant_of-self-else-room-self
invariant_of-self-else-room-self c =
    let tree = c.self.inside.tree in
    let store : Store = record tree.store { keys = c.reserve.new.self } in
    stored_still tree store c.self.inside.room c.self.invariant c.reserve.ensures.records refl c.self.invariant.none_removed (omega arith)
