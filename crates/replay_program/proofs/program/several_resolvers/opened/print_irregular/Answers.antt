use Rattle.std.proofs.lemmas.Result.{on_ok_weaker}
use Rattle.wire.proofs.callers.Given.{appends_then}
use Rattle.replay_program.proofs.program.several_resolvers.opened.print_irregular.Goals as goal

pub returns-clause-text : goal.returns-clause-text
returns-clause-text g c =
    on_ok_weaker c.write_all.result (λ end. appends_then _ _ _ _ _ c.in_ok-begin_line.ensures.text end) c.write_all.ensures.entire
