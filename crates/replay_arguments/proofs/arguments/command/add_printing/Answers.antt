use Rattle.std.proofs.Common.{refl, ◌∙◌, ap₂}
use Rattle.std.proofs.lemmas.Result.{IfOk-weaker}
use Rattle.clap.specs.Words.{with_rule}
use Rattle.replay_arguments.proofs.arguments.command.add_printing.Goals as goal

pub returns : goal.returns
returns c =
    let one = c.in_ok-arg.ensures.shape c.frames.ensures.local ∙ ap₂ with_rule refl c.frames.ensures.rule in
    let two = c.in_ok-arg-2.ensures.shape c.json.ensures.local ∙ ap₂ with_rule one c.json.ensures.rule in
    let three = c.in_ok-arg-3.ensures.shape c.quiet.ensures.local ∙ ap₂ with_rule two c.quiet.ensures.rule in
    let four = c.in_ok-arg-4.ensures.shape c.only.ensures.local ∙ ap₂ with_rule three c.only.ensures.rule in
    let five = c.in_ok-arg-5.ensures.shape c.versions.ensures.local ∙ ap₂ with_rule four c.versions.ensures.rule in
    let six = c.in_ok-arg-6.ensures.shape c.explain.ensures.local ∙ ap₂ with_rule five c.explain.ensures.rule in
    record {
      app = IfOk-weaker c.arg-7.result _ _
          (λ command added. added.shape c.summary.ensures.local ∙ ap₂ with_rule six c.summary.ensures.rule)
          c.arg-7.ensures;
    }
