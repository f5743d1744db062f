use Rattle.std.proofs.Common.{◌≡◌}
use Rattle.std.specs.Prelude.{vec_capacity, vec_len}
use Rattle.replay_arguments.proofs.Openings.{AreOpened}
use Rattle.replay_arguments.proofs.opened_files.create_each.Given as goal

abbrev pub invariant-loop-proxy : goal.invariant-loop-proxy
invariant-loop-proxy g l = record {
  opened : AreOpened g.F.Writer.Sink.given (g.F.Files.begun l.fn.files) (g.F.Files.has_created l.fn.files)
      l.fn.names l.writers.items l.proxy;
  capacity : vec_capacity l.writers ≡ vec_capacity l.fn.room;
  count : vec_len l.writers ≡ l.proxy;
}
