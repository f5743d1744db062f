use Rattle.std.proofs.Common.{refl, ◌∙◌, ap₂}
use Rattle.std.proofs.lemmas.Result.{IfOk-weaker}
use Rattle.clap.specs.Words.{with_rule}
use Rattle.replay_arguments.proofs.arguments.command.add_resolving.Goals as goal

pub returns : goal.returns
returns c =
    let one = c.in_ok-arg.ensures.shape c.capacity.ensures.local ∙ ap₂ with_rule refl c.capacity.ensures.rule in
    let two = c.in_ok-arg-2.ensures.shape c.window.ensures.local ∙ ap₂ with_rule one c.window.ensures.rule in
    let three = c.in_ok-arg-3.ensures.shape c.limit.ensures.local ∙ ap₂ with_rule two c.limit.ensures.rule in
    let four = c.in_ok-arg-4.ensures.shape c.report_all.ensures.local ∙ ap₂ with_rule three c.report_all.ensures.rule in
    let five = c.in_ok-arg-5.ensures.shape c.resolvers.ensures.local ∙ ap₂ with_rule four c.resolvers.ensures.rule in
    record {
      app = IfOk-weaker c.arg-6.result _ _
          (λ command added. added.shape c.split_points.ensures.local ∙ ap₂ with_rule five c.split_points.ensures.rule)
          c.arg-6.ensures;
    }
