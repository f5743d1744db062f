use Rattle.std.proofs.Common.{◌≡◌}
use Rattle.std.specs.Prelude.{vec_capacity, vec_len}
use Rattle.replay_arguments.proofs.Openings.{AreOpened}
use Rattle.replay_arguments.proofs.opened_files.open_each.Given as goal

abbrev pub invariant-loop-proxy : goal.invariant-loop-proxy
invariant-loop-proxy g l = record {
  opened : AreOpened g.F.Reader.Source.remaining (g.F.Files.contents l.fn.files) (g.F.Files.has_opened l.fn.files)
      l.fn.names l.readers.items l.proxy;
  capacity : vec_capacity l.readers ≡ vec_capacity l.fn.room;
  count : vec_len l.readers ≡ l.proxy;
}
