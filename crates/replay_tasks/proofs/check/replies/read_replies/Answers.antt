use Rattle.std.proofs.Common.{Err, List, ℕ, ap, map, sym, subst, ◌∙◌}
use Rattle.replay_arguments.specs.Opening.{IsFirstRefused}
use Rattle.replay_tasks.proofs.check.replies.read_replies.Goals as goal

pub returns-in-Err-CannotOpen-clause-refused : goal.returns-in-Err-CannotOpen-clause-refused
returns-in-Err-CannotOpen-clause-refused g c =
    let files = c.args.files.now in
    let names : List (List ℕ) = map (λ name. name.now) c.args.names.now in
    let proxy = c.in-Err-CannotOpen.proxy in
    subst (IsFirstRefused (g.F.Files.has_opened files) (g.F.Files.cannot_open files) names) (sym c.in-Err-CannotOpen.proxy-is)
    (c.open_files.ensures.refused proxy (c.in-Err-CannotOpen.is ∙ ap Err c.in-Err-CannotOpen.field-0-is))
