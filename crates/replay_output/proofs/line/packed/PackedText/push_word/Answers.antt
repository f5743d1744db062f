use Rattle.std.proofs.Common.{◌-◌, ◌++◌, List, refl, ap, ◌∙◌, arith}
use Rattle.std.specs.Prelude.{ℕ}
use Rattle.replay_output.specs.Packed.{word_text}
use Rattle.replay_output.proofs.Packing.{with_last_replaced}
use Rattle.replay_output.proofs.line.packed.PackedText.push_word.Goals as goal

pub returns-in-Some-after-clause-text : goal.returns-in-Some-after-clause-text
returns-in-Some-after-clause-text c =
    let units = c.self.inside.units in
    let some = c.in-Some.ensures.variant.0 refl in
    with_last_replaced units.items (units.len - 1) c.in-Some.last.now c.in-Some-after.more (word_text c.args.word)
    (omega (arith, some, units.ok.0)) c.in-Some.ensures.value c.in-Some-after.ensures.spelled
    ∙ ap (λ (text : List ℕ). text ++ word_text c.args.word) c.self.view_is
