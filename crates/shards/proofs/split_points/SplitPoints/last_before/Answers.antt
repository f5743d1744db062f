use Rattle.std.proofs.Common.{◌∙◌, ℕ, List, [], sym, ap, subst}
use Rattle.std.specs.Prelude.{slice_get}
use Rattle.serial.specs.Shards.{IsRising}
use Rattle.shards.proofs.Counts.{last_from_stop}
use Rattle.shards.proofs.split_points.SplitPoints.last_before.Goals as goal

pub returns-clause-last : goal.returns-clause-last
returns-clause-last c = λ index point low at.
    let points = c.deref.result.now in
    let same = c.deref.ensures.value ∙ c.self.view_is in
    let rising = subst (IsRising []) (sym c.deref.ensures.value) c.self.invariant.rising in
    last_from_stop points rising c.args.key.now c.args.first c.first_at_most.result c.first_at_most.ensures.before
    c.first_at_most.ensures.next index point low (ap (λ (all : List (List ℕ)). slice_get all index) same ∙ at)
