use Rattle.std.proofs.Common.{◌∙◌, ap, ap₂}
use Rattle.std.proofs.lemmas.Result.{IfOk-weaker}
use Rattle.clap.specs.Words.{with_rule}
use Rattle.replay_arguments.specs.Command.{replay_app, with_files, with_printing, with_resolving}
use Rattle.replay_arguments.proofs.arguments.command.command.Goals as goal

pub returns : goal.returns
unfolding replay_app
returns c =
    let resolving = c.in_ok-resolving.ensures.app ∙ ap with_resolving c.program.ensures.app in
    let printing = c.in_ok-printing.ensures.app ∙ ap with_printing resolving in
    let files = c.in_ok-complete.ensures.app ∙ ap with_files printing in
    record {
      app = IfOk-weaker c.arg.result _ _ (λ command added. added.shape c.file.ensures.local ∙ ap₂ with_rule files c.file.ensures.rule)
          c.arg.ensures;
    }
