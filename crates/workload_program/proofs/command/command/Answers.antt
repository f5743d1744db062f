use Rattle.std.proofs.Common.{◌∙◌, ap₂}
use Rattle.std.proofs.lemmas.Result.{IfOk-weaker}
use Rattle.clap.specs.Words.{with_rule}
use Rattle.workload_program.specs.Command.{workload_app}
use Rattle.workload_program.proofs.command.command.Goals as goal

pub returns : goal.returns
unfolding workload_app
returns c =
    let one = c.in_ok-arg.ensures.shape c.word.ensures.local ∙ ap₂ with_rule c.program.ensures.app c.word.ensures.rule in
    let two = c.in_ok-arg-2.ensures.shape c.word-2.ensures.local ∙ ap₂ with_rule one c.word-2.ensures.rule in
    record {
      app = IfOk-weaker c.arg-3.result _ _
          (λ command added. added.shape c.word-3.ensures.local ∙ ap₂ with_rule two c.word-3.ensures.rule)
          c.arg-3.ensures;
    }
