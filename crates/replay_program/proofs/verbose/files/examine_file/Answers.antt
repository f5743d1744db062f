use Rattle.std.proofs.Common.{◌∙◌, List, ℕ, Err, ap, inl, inr, subst, sym}
use Rattle.std.specs.Prelude.{Option}
use Rattle.std.proofs.lemmas.Result.{IfErr-weaker, IfOk-weaker}
use Rattle.replay_diagnosis.specs.Content.{ContainsBatches, FoundIn}
use Rattle.replay_program.specs.Verbose.{IsFoundIn}
use Rattle.replay_program.proofs.Saying.{found_as}
use Rattle.replay_program.proofs.verbose.files.examine_file.Goals as goal

pub returns-in-Err-clause-found : goal.returns-in-Err-clause-found
returns-in-Err-clause-found g c =
    let f = c.args.files.now in
    let contents = g.F.Files.contents f in
    let cannot_open = g.F.Files.cannot_open f in
    let name = c.args.name.now in
    elim c.unopened.ensures.either [
      | inl is ↦ subst (IsFoundIn contents cannot_open name) (sym is)
          (c.open.ensures.refused (c.in-Err.is ∙ ap Err (c.unopened.ensures.cannot_open is)))
      | inr is ↦ subst (IsFoundIn contents cannot_open name) (sym is) tt
    ]

pub returns : goal.returns
returns g c =
    let f = c.args.files.now in
    let contents = g.F.Files.contents f in
    let cannot_open = g.F.Files.cannot_open f in
    let name = c.args.name.now in
    let same = c.in-Ok.ensures.contents in
    record {
      batches = IfOk-weaker c.examine.result _ _
          (λ batches contains.
          let are = subst (λ (left : Option (List ℕ)). ContainsBatches left batches) same contains in
          (are.batches, (are.bytes, are.frames, are.read), are.least))
          c.examine.ensures.batches;
      found = IfErr-weaker c.examine.result _ _
          (λ finding is. found_as contents cannot_open name finding
          (subst (λ (left : Option (List ℕ)). FoundIn left finding) same is))
          c.examine.ensures.finding;
    }
