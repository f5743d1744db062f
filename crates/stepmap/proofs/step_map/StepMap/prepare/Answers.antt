use Rattle.std.proofs.Common.{[], length, sym, ◌∙◌, ap, subst}
use Rattle.stepmap.specs.StepMap.{Steps}
use Rattle.stepmap.specs.Limit.{HasRoomFor, made_room}
use Rattle.stepmap.specs.Kept.{steps_of}
use Rattle.stepmap.proofs.Preparing.{RoomKeeps, prepare_keeps, no_room_if, full_bound}
use Rattle.stepmap.proofs.step_map.StepMap.prepare.Goals as goal
use Rattle.stepmap.proofs.step_map.StepMap.prepare.Goals.{After-clear, After-from_residual, In_ok-reserve}

-- where there is no room
full : (c : After-clear)
    → RoomKeeps (length c.args.lengths.now) c.args.self.now
    (steps_of c.self.inside.boundaries c.self.inside.edge c.clear.new.self.items
    c.self.inside.cursor.items c.self.inside.round c.self.inside.limit)
full c =
    let i = c.self.inside in
    prepare_keeps
    (length c.args.lengths.now) c.clear.new.self.items c.args.self.now c.make_room.ensures.steps
    c.make_room.new.self _ c.make_room.ensures.map
    (ap (λ (m : Steps). record m { ready = c.clear.new.self.items }) c.self.view_is)

pub returns-then-not-make_room-clause-same : goal.returns-then-not-make_room-clause-same
returns-then-not-make_room-clause-same c =
    (full (goal.at.returns-then-not-make_room-clause-same c).After-clear).same

pub returns-then-not-make_room-clause-newest : goal.returns-then-not-make_room-clause-newest
returns-then-not-make_room-clause-newest c =
    (full (goal.at.returns-then-not-make_room-clause-newest c).After-clear).newest

pub returns-then-not-make_room-clause-covers : goal.returns-then-not-make_room-clause-covers
returns-then-not-make_room-clause-covers c =
    (full (goal.at.returns-then-not-make_room-clause-covers c).After-clear).covers

pub returns-then-not-make_room-clause-rooted : goal.returns-then-not-make_room-clause-rooted
returns-then-not-make_room-clause-rooted c =
    (full (goal.at.returns-then-not-make_room-clause-rooted c).After-clear).rooted

pub returns-then-not-make_room-clause-edge : goal.returns-then-not-make_room-clause-edge
returns-then-not-make_room-clause-edge c =
    (full (goal.at.returns-then-not-make_room-clause-edge c).After-clear).edge

pub returns-then-not-make_room-clause-limit : goal.returns-then-not-make_room-clause-limit
returns-then-not-make_room-clause-limit c =
    (full (goal.at.returns-then-not-make_room-clause-limit c).After-clear).limit

pub returns-then-not-make_room-clause-untouched : goal.returns-then-not-make_room-clause-untouched
returns-then-not-make_room-clause-untouched c =
    (full (goal.at.returns-then-not-make_room-clause-untouched c).After-clear).untouched

pub returns-then-not-make_room-clause-front : goal.returns-then-not-make_room-clause-front
returns-then-not-make_room-clause-front c =
    (full (goal.at.returns-then-not-make_room-clause-front c).After-clear).front

pub returns-then-not-make_room-clause-ends : goal.returns-then-not-make_room-clause-ends
returns-then-not-make_room-clause-ends c =
    (full (goal.at.returns-then-not-make_room-clause-ends c).After-clear).ends

pub returns-then-not-make_room-clause-bound : goal.returns-then-not-make_room-clause-bound
returns-then-not-make_room-clause-bound c =
    let old = c.args.self.now in
    let n = length c.args.lengths.now in
    let test = sym c.make_room.ensures.room ∙ c.if-not-make_room.true in
    let none : ¬ HasRoomFor n (made_room n old) =
    subst (λ (m : Steps). ¬ HasRoomFor n m) c.make_room.ensures.map
    (no_room_if n c.make_room.new.self test) in
    λ _ ws r. full_bound n old c.make_room.ensures.steps none ws r

-- where memory was refused
refused : (c : After-from_residual) → RoomKeeps (length c.args.lengths.now) c.args.self.now c.reserve.new.self
refused c =
    prepare_keeps
    (length c.args.lengths.now) [] c.args.self.now c.make_room.ensures.steps c.make_room.new.self
    c.reserve.new.self c.make_room.ensures.map c.in_err-reserve.ensures.err

pub returns-in_err-reserve-clause-same : goal.returns-in_err-reserve-clause-same
returns-in_err-reserve-clause-same c =
    (refused (goal.at.returns-in_err-reserve-clause-same c).After-from_residual).same

pub returns-in_err-reserve-clause-newest : goal.returns-in_err-reserve-clause-newest
returns-in_err-reserve-clause-newest c =
    (refused (goal.at.returns-in_err-reserve-clause-newest c).After-from_residual).newest

pub returns-in_err-reserve-clause-covers : goal.returns-in_err-reserve-clause-covers
returns-in_err-reserve-clause-covers c =
    (refused (goal.at.returns-in_err-reserve-clause-covers c).After-from_residual).covers

pub returns-in_err-reserve-clause-rooted : goal.returns-in_err-reserve-clause-rooted
returns-in_err-reserve-clause-rooted c =
    (refused (goal.at.returns-in_err-reserve-clause-rooted c).After-from_residual).rooted

pub returns-in_err-reserve-clause-edge : goal.returns-in_err-reserve-clause-edge
returns-in_err-reserve-clause-edge c =
    (refused (goal.at.returns-in_err-reserve-clause-edge c).After-from_residual).edge

pub returns-in_err-reserve-clause-limit : goal.returns-in_err-reserve-clause-limit
returns-in_err-reserve-clause-limit c =
    (refused (goal.at.returns-in_err-reserve-clause-limit c).After-from_residual).limit

pub returns-in_err-reserve-clause-untouched : goal.returns-in_err-reserve-clause-untouched
returns-in_err-reserve-clause-untouched c =
    (refused (goal.at.returns-in_err-reserve-clause-untouched c).After-from_residual).untouched

pub returns-in_err-reserve-clause-front : goal.returns-in_err-reserve-clause-front
returns-in_err-reserve-clause-front c =
    (refused (goal.at.returns-in_err-reserve-clause-front c).After-from_residual).front

pub returns-in_err-reserve-clause-ends : goal.returns-in_err-reserve-clause-ends
returns-in_err-reserve-clause-ends c =
    (refused (goal.at.returns-in_err-reserve-clause-ends c).After-from_residual).ends

-- where all is ready
ready : (c : In_ok-reserve) → RoomKeeps (length c.args.lengths.now) c.args.self.now c.reserve.new.self
ready c =
    prepare_keeps (length c.args.lengths.now)
    c.args.lengths.now c.args.self.now c.make_room.ensures.steps c.make_room.new.self
    c.reserve.new.self c.make_room.ensures.map c.in_ok-reserve.ensures.ok

pub returns-clause-same : goal.returns-clause-same
returns-clause-same c = (ready (goal.at.returns-clause-same c).In_ok-reserve).same

pub returns-clause-newest : goal.returns-clause-newest
returns-clause-newest c = (ready (goal.at.returns-clause-newest c).In_ok-reserve).newest

pub returns-clause-covers : goal.returns-clause-covers
returns-clause-covers c = (ready (goal.at.returns-clause-covers c).In_ok-reserve).covers

pub returns-clause-rooted : goal.returns-clause-rooted
returns-clause-rooted c = (ready (goal.at.returns-clause-rooted c).In_ok-reserve).rooted

pub returns-clause-edge : goal.returns-clause-edge
returns-clause-edge c = (ready (goal.at.returns-clause-edge c).In_ok-reserve).edge

pub returns-clause-limit : goal.returns-clause-limit
returns-clause-limit c = (ready (goal.at.returns-clause-limit c).In_ok-reserve).limit

pub returns-clause-untouched : goal.returns-clause-untouched
returns-clause-untouched c = (ready (goal.at.returns-clause-untouched c).In_ok-reserve).untouched

pub returns-clause-front : goal.returns-clause-front
returns-clause-front c = (ready (goal.at.returns-clause-front c).In_ok-reserve).front

pub returns-clause-ends : goal.returns-clause-ends
returns-clause-ends c = (ready (goal.at.returns-clause-ends c).In_ok-reserve).ends
