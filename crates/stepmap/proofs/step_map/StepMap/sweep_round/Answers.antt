use Rattle.std.proofs.Common.{◌≡◌, ℕ, length, ◌∙◌, ap, subst, arith}
use Rattle.stepmap.specs.StepMap.{Steps, AreSteps}
use Rattle.stepmap.specs.Sweeping.{at_front, after_sweep}
use Rattle.stepmap.proofs.Rounds.{entire_round}
use Rattle.stepmap.proofs.step_map.StepMap.sweep_round.Goals as goal

pub returns : goal.returns
returns c =
    let old = c.args.self.now in
    let front = c.self.view_is ∙ c.end_round.ensures.map in
    let same = ap (λ (m : Steps). length m.boundaries) front in
    let count : c.len-count.result ≡ length old.boundaries =
    omega (arith, c.len-count.ensures.len, same) in
    let swept = c.sweep.ensures.map ∙ ap (after_sweep c.len-count.result) c.end_round.ensures.map in
    record {
      map = swept ∙ ap (λ (n : ℕ). after_sweep n (at_front old)) count
          ∙ entire_round (at_front old) (subst AreSteps front c.self.invariant.steps);
    }
