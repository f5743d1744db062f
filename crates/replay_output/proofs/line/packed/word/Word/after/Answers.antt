use Rattle.std.proofs.Common.{rules, sym, ◌∙◌, arith}
use Rattle.replay_output.proofs.Packing.{once_more}
use Rattle.replay_output.proofs.line.packed.word.Word.after.Goals as goal

pub returns-clause-spelled : goal.returns-clause-spelled
returns-clause-spelled c =
    once_more c.args.unit c.args.self (omega arith) (sym c.of_unit.ensures.word ∙ search rules)
