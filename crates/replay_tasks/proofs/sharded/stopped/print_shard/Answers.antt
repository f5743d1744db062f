use Rattle.std.proofs.Common.{subst, ◌∙◌}
use Rattle.std.proofs.lemmas.Result.{on_ok_weaker}
use Rattle.std.specs.Io.KnownBytes.{Appends}
use Rattle.wire.proofs.callers.Given.{appends_then}
use Rattle.replay_tasks.proofs.sharded.stopped.print_shard.Goals as goal

pub returns-clause-text : goal.returns-clause-text
returns-clause-text g c =
    let given = g.E.Sink.given in
    let number = subst (Appends (given c.write_all.new.writer) (given c.write_all-2.new.writer))
    (c.as_bytes.ensures.value ∙ c.format.ensures.text) c.in_ok-write_all-2.ensures.entire in
    on_ok_weaker c.write_all-3.result
    (λ end. appends_then _ _ _ _ _ c.in_ok-write_all.ensures.entire (appends_then _ _ _ _ _ number end))
    c.write_all-3.ensures.entire
