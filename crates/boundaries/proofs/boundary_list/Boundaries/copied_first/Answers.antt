use Rattle.std.proofs.Common.{rules, ◌≡◌, [], ◌∷◌, ap, ◌∙◌, w64}
use Rattle.std.specs.Prelude.{ℤ, negsuc, FitsSigned}
use Rattle.std.proofs.lemmas.Int.{to_z-of_z}
use Rattle.boundaries.specs.Boundary.{last_version}
use Rattle.boundaries.proofs.CopiedOn.{copied_first, first_boundaries}
use Rattle.boundaries.proofs.boundary_list.Boundaries.copied_first.Goals as goal
use Rattle.boundaries.proofs.boundary_list.Boundaries.copied_first.Goals.{In-Ok}

-- the boundary with which the copy begins
first_is : (c : In-Ok)
    → c.in-Ok.copy.boundaries ≡ record { key = []; version = last_version (negsuc 0) c.args.self.now.boundaries } ∷ []
first_is c =
    let last = c.in_ok-last.last in
    let fits : FitsSigned w64 last = search rules in
    c.in-Ok.ensures.first
    ∙ ap (λ (v : ℤ). record { key = []; version = v } ∷ []) (to_z-of_z w64 last fits ∙ c.in_ok-last.ensures.last)

pub returns-clause-copied : goal.returns-clause-copied
returns-clause-copied c =
    copied_first c.args.self.now.boundaries c.requires.boundaries c.in-Ok.copy.boundaries
    (first_is (goal.at.returns-clause-copied c).In-Ok)

pub returns-clause-boundaries : goal.returns-clause-boundaries
returns-clause-boundaries c =
    first_boundaries c.args.self.now.boundaries c.requires.boundaries c.in-Ok.copy.boundaries
    (first_is (goal.at.returns-clause-boundaries c).In-Ok)
