use Rattle.std.proofs.Common.{◌≡◌, get_or, sym, subst, arith, take_all}
use Rattle.arena.specs.Arena.{IsLive}
use Rattle.boundaries.proofs.callers.Times.{times_unless_contains}
use Rattle.boundaries.proofs.Releasing.{AreReleased, none_released, next_live, next_released, spare_released}
use Rattle.boundaries.proofs.store.release.Goals as goal
use Rattle.boundaries.proofs.store.release.Goals.{After-loop-slot}

pub loop-slot-init : goal.loop-slot-init
loop-slot-init c = none_released c.args.keys.now

pub release-requires : goal.release-requires
release-requires c =
    let slots = c.args.slots.now in
    let i = c.loop-slot.slot-index in
    let slot = c.slot-item.result in
    let is : get_or slots i slot ≡ slot = sym c.slot-item.is in
    let live : IsLive c.args.keys.now slot = subst (IsLive c.args.keys.now) is (c.requires.live i slot c.loop-slot-test.true) in
    record {
      live = next_live slots c.requires.distinct i slot c.loop-slot-test.true is c.args.keys.now c.loop-slot.keys
          c.loop-slot.invariant live;
    }

pub loop-slot-preserved : goal.loop-slot-preserved
loop-slot-preserved c =
    let slots = c.args.slots.now in
    let i = c.loop-slot.slot-index in
    let slot = c.slot-item.result in
    let a = c.args.keys.now in
    let b = c.loop-slot.keys in
    let is : get_or slots i slot ≡ slot = sym c.slot-item.is in
    let lt = c.loop-slot-test.true in
    let live : IsLive a slot = subst (IsLive a) is (c.requires.live i slot lt) in
    let still = next_live slots c.requires.distinct i slot lt is a b c.loop-slot.invariant live in
    next_released slots c.requires.distinct i slot lt is a b c.release.new.self c.loop-slot.invariant still
    c.release.ensures.released c.release.ensures.others
    (spare_released b c.release.new.self slot still c.release.ensures.spare c.release.ensures.other_sizes)

-- all of them are released
released : (c : After-loop-slot) → AreReleased c.args.keys.now c.loop-slot.keys c.args.slots.now
released c =
    let slots = c.args.slots.now in
    subst (AreReleased c.args.keys.now c.loop-slot.keys)
    (take_all c.loop-slot.slot-index slots (omega (arith, c.loop-slot-test.false))) c.loop-slot.invariant

pub returns-clause-others : goal.returns-clause-others
returns-clause-others c slot without = (released c).others slot (times_unless_contains slot c.args.slots.now without)

pub returns-clause-counted : goal.returns-clause-counted
returns-clause-counted c = (released c).counted

pub returns-clause-spare : goal.returns-clause-spare
returns-clause-spare c = c.loop-slot.invariant.spare
