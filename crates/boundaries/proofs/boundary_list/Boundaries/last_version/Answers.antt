use Rattle.std.proofs.Common.{rules, ap, ◌∙◌, w64}
use Rattle.std.specs.Prelude.{FitsSigned}
use Rattle.std.proofs.lemmas.Int.{to_z-of_z}
use Rattle.boundaries.specs.Boundary.{value_at}
use Rattle.boundaries.proofs.CopiedOn.{value_at_greatest}
use Rattle.boundaries.proofs.boundary_list.Boundaries.last_version.Goals as goal

pub returns : goal.returns
returns c =
    let bs = c.args.self.now.boundaries in
    let fits : FitsSigned w64 c.version_at.result = search rules in
    record {
      last = to_z-of_z w64 c.version_at.result fits ∙ c.version_at.ensures.value
          ∙ ap (value_at bs) (c.deref.ensures.value ∙ c.in_ok-greatest.ensures.bytes)
          ∙ value_at_greatest bs c.requires.keys;
    }
