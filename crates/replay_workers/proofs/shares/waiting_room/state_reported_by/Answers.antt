use Rattle.std.proofs.Common.{◌≡◌, inl, inr, subst, ⊎_elim}
use Rattle.replay_workers.specs.declared.shares.place.Place.{Place}
use Rattle.replay_workers.specs.declared.shares.place.Place.TheVariants.{Goes, Admitted}
use Rattle.replay_workers.proofs.shares.waiting_room.state_reported_by.Goals as goal

pub returns-clause-stands : goal.returns-clause-stands
returns-clause-stands g c = λ stand is.
    subst (λ (p : Place). g.C.PlaceCell.has_given c.args.cell.now p) ((c.reported_state.ensures.stands stand).0 is)
    c.load.ensures.given

pub returns-clause-closed : goal.returns-clause-closed
returns-clause-closed g c = λ is.
    subst (λ (p : Place). g.C.PlaceCell.has_given c.args.cell.now p) (c.reported_state.ensures.closed.0 is)
    c.load.ensures.given

pub returns-clause-goes : goal.returns-clause-goes
returns-clause-goes g c = λ is. ⊎_elim
    (λ (goes : c.load.result ≡ Goes). inl
    (subst (λ (p : Place). g.C.PlaceCell.has_given c.args.cell.now p) goes c.load.ensures.given))
    (λ (admitted : c.load.result ≡ Admitted). inr
    (subst (λ (p : Place). g.C.PlaceCell.has_given c.args.cell.now p) admitted c.load.ensures.given))
    (c.reported_state.ensures.goes.0 is)
