use Rattle.std.proofs.Common.{subst, inr, map, string_bytes, List}
use Rattle.clap.specs.Words.{Row}
use Rattle.replay_arguments.specs.Asked.{HoldsAsked}
use Rattle.replay_arguments.specs.Arguments.{IsOfNoUse}
use Rattle.replay_arguments.proofs.Lines.{line_asks}
use Rattle.replay_arguments.proofs.arguments.read_words.Goals as goal

pub returns-in-Ok-clause-asks : goal.returns-in-Ok-clause-asks
returns-in-Ok-clause-asks c =
    let words = map string_bytes c.args.words.now in
    let holds = subst (λ (rows : List Row). HoldsAsked rows c.in-Ok.asked) c.in_ok-matches.ensures.rows c.in-Ok.ensures.asked in
    line_asks words c.in-Ok.asked c.in_ok-new-in-Ok.field-0 holds c.in_ok-new-in-Ok.ensures.line c.in_ok-matches.ensures.taken

pub returns-clause-refused : goal.returns-clause-refused
returns-clause-refused c = λ text is. inr (subst IsOfNoUse c.in_ok-matches.ensures.rows c.in-Err.ensures.none)
