use Rattle.std.proofs.Common.{◌∙◌, List, ℕ, Bor, Err, ap, arith, length, refl, subst}
use Rattle.std.proofs.lemmas.List.{length-map}
use Rattle.std.specs.List.{All}
use Rattle.replay_arguments.specs.declared.opened_files.OpeningError.TheVariants as opening
use Rattle.replay_arguments.specs.Opening.{IsFirstRefused, contents_each}
use Rattle.replay_program.specs.Program.{texts}
use Rattle.replay_program.proofs.Writers.{same_error}
use Rattle.replay_program.proofs.program.opened.open_batches.Goals as goal

pub returns-in-Err-clause-refused : goal.returns-in-Err-clause-refused
returns-in-Err-clause-refused g c = λ proxy is.
    subst (λ (names : List (Bor (List ℕ))). IsFirstRefused (g.F.Files.has_opened c.args.files.now)
    (g.F.Files.cannot_open c.args.files.now) (texts names) proxy) c.deref.ensures.value
    (c.open_files.ensures.refused proxy (c.in-Err.is ∙ ap Err (same_error _ c.in-Err.cause (opening.CannotOpen proxy) refl is)))

pub returns-clause-contents : goal.returns-clause-contents
returns-clause-contents g c =
    c.in-Ok.ensures.contents
    ∙ ap (λ (names : List (Bor (List ℕ))). contents_each (g.F.Files.contents c.args.files.now) (texts names)) c.deref.ensures.value

pub returns-clause-each : goal.returns-clause-each
returns-clause-each g c = omega (
  arith,
  ap length c.in-Ok.ensures.contents,
  ap length c.deref.ensures.value,
  c.in-Ok.readers.ok.0,
  c.args.line.now.files.ok.0,
  length-map c.in-Ok.readers.items g.F.Reader.Source.remaining,
  length-map (texts c.deref.result.now) (g.F.Files.contents c.args.files.now),
  length-map c.deref.result.now (λ name. name.now),
)

pub returns-clause-opened : goal.returns-clause-opened
returns-clause-opened g c =
    subst (λ (names : List (Bor (List ℕ))). All (g.F.Files.has_opened c.args.files.now) (texts names)) c.deref.ensures.value
    c.in-Ok.ensures.opened
