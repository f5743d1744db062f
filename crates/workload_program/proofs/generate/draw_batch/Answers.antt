use Rattle.std.proofs.Common.{rules, ◌≡◌, ◌<◌, ◌≤◌, ◌-◌, ◌∙◌, ℕ, zero, suc, ℤ, negsuc, ap, arith}
use Rattle.workload_program.specs.declared.shape.Shape.{Shape}
use Rattle.workload_program.specs.Versions.{version_of}
use Rattle.workload_program.specs.Chain.{previous_of}
use Rattle.workload_program.proofs.generate.draw_batch.Goals as goal

-- the version of the batch before, or -1 where there is none
before : (shape : Shape) (number : ℕ) (previous : ℤ) → (number < 1 → previous ≡ negsuc 0)
    → (1 ≤ number → previous ≡ version_of shape (number - 1)) → previous ≡ previous_of shape number
before shape zero previous none version = none (omega arith)
before shape (suc number) previous none version =
    let one_less : suc number - 1 ≡ number = omega arith in version (omega arith) ∙ ap (version_of shape) one_less

pub returns-clause-previous : goal.returns-clause-previous
returns-clause-previous c =
    let same : c.in_ok-checked.field-0.previous ≡ c.version_before-previous.result = search rules in
    same ∙ before c.args.shape c.args.number c.version_before-previous.result c.version_before-previous.ensures.none
    c.version_before-previous.ensures.version
