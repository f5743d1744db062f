use Rattle.std.proofs.Common.{rules, ◌++◌, ◌∙◌, List, ap}
use Rattle.std.specs.Prelude.{ℕ}
use Rattle.replay_output.proofs.Packing.{repeat_more}
use Rattle.replay_output.proofs.line.packed.unit_text.push_unit.Goals as goal

pub loop-preserved : goal.loop-preserved
loop-preserved c =
    let word = c.text-word.result.now in
    record {
      text = search rules ∙ ap (λ (front : List ℕ). front ++ word) c.loop.invariant.text
          ∙ repeat_more c.args.text.now.items c.loop.counter word;
      room = search rules;
    }
