use Rattle.std.proofs.Common.{◌≡◌, Some, slice_get, subst}
use Rattle.replay_workers.specs.declared.shares.reported_state.ReportedState.TheVariants.{Stands}
use Rattle.replay_workers.specs.NextAdmitted.{HasFirst}
use Rattle.replay_workers.proofs.Firsts.{or_next}
use Rattle.replay_workers.proofs.shares.next.first_of.Goals as goal

pub returns-in-Some : goal.returns-in-Some
returns-in-Some c = record {
  first = λ reported at before.
      let here : slice_get reported c.args.proxy ≡ Some (Stands c.in-Stands.stand) = cc in
      or_next reported c.args.proxy c.in-Some.candidate c.or.result c.in-Stands.stand here
      (subst (λ first. HasFirst c.args.proxy reported first) c.in-Some.is before)
      c.or.ensures.least c.or.ensures.other;
}
