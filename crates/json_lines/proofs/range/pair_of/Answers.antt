use Rattle.json_lines.proofs.Lists.{not_pair}
use Rattle.json_lines.proofs.range.pair_of.Goals as goal

pub returns-then-items-ne2 : goal.returns-then-items-ne2
returns-then-items-ne2 c = record { reads = λ _. not_pair c.args.items.now c.if-items-ne2.true }
