use Rattle.std.proofs.lemmas.Result.{on_ok_weaker}
use Rattle.wire.proofs.callers.Given.{appends_then}
use Rattle.replay_program.proofs.stream.print_all.Goals as goal

pub returns-clause-text : goal.returns-clause-text
returns-clause-text g c =
    on_ok_weaker c.print_failures.result (λ rest. appends_then _ _ _ _ _ c.in_ok-print_unwritten.ensures.text rest)
    c.print_failures.ensures.text
