use Rattle.std.proofs.Common.{refl, ◌∙◌, ap₂}
use Rattle.std.proofs.lemmas.Result.{IfOk-weaker}
use Rattle.clap.specs.Words.{with_rule}
use Rattle.replay_arguments.proofs.arguments.command.add_files.Goals as goal

pub returns : goal.returns
returns c =
    let one = c.in_ok-arg.ensures.shape c.check.ensures.local ∙ ap₂ with_rule refl c.check.ensures.rule in
    let two = c.in_ok-arg-2.ensures.shape c.stream.ensures.local ∙ ap₂ with_rule one c.stream.ensures.rule in
    let three = c.in_ok-arg-3.ensures.shape c.replies.ensures.local ∙ ap₂ with_rule two c.replies.ensures.rule in
    let four = c.in_ok-arg-4.ensures.shape c.output.ensures.local ∙ ap₂ with_rule three c.output.ensures.rule in
    let five = c.in_ok-arg-5.ensures.shape c.summary_to.ensures.local ∙ ap₂ with_rule four c.summary_to.ensures.rule in
    let six = c.in_ok-arg-6.ensures.shape c.top.ensures.local ∙ ap₂ with_rule five c.top.ensures.rule in
    record {
      app = IfOk-weaker c.arg-7.result _ _
          (λ command added. added.shape c.verbose.ensures.local ∙ ap₂ with_rule six c.verbose.ensures.rule)
          c.arg-7.ensures;
    }
