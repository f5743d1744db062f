use Rattle.std.proofs.Common.{sym, ◌∙◌, ap, subst}
use Rattle.std.specs.Prelude.{ℤ}
use Rattle.std.proofs.lemmas.Int.{to_z-of_z}
use mir.Syntax.{w64}
use mir.Val.{to_z, of_z}
use Rattle.stepmap.specs.Boundary.{AreUpTo}
use Rattle.stepmap.specs.StepMap.{Steps, AreSteps}
use Rattle.stepmap.proofs.Changes.{raise_keeps}
use Rattle.stepmap.proofs.step_map.StepMap.raise.Goals as goal

pub returns : goal.returns
returns c =
    let old = c.args.self.now in
    let is = ap (λ (m : Steps). record m { edge = to_z w64 (of_z w64 c.args.edge) }) c.self.view_is
    ∙ ap (λ (x : ℤ). record old { edge = x }) (to_z-of_z w64 c.args.edge c.ranges.edge) in
    let keeps =
    raise_keeps c.args.edge old
    (subst AreSteps c.self.view_is c.self.invariant.steps) c.requires.late _ is in
    record {
      map = is;
      newest = λ version a. subst (λ (m : Steps). AreUpTo version m.boundaries) (sym is) a;
      covers = keeps.covers;
      rooted = keeps.rooted;
    }
