use Rattle.std.proofs.Common.{◌≡◌, ◌≤◌, map}
use Rattle.std.specs.Prelude.{vec_capacity, vec_items, vec_len}
use Rattle.std.specs.List.{All}
use Rattle.replay_arguments.specs.Opening.{contents_each}
use Rattle.replay_sharded.specs.Files.{ReadTheFiles}
use Rattle.replay_program.specs.Program.{texts}
use Rattle.replay_program.proofs.program.several_resolvers.opened.open_each.Given as goal

abbrev pub invariant-loop : goal.invariant-loop
invariant-loop g l = record {
  files :
      All (ReadTheFiles g.F.Reader.Source.remaining (contents_each (g.F.Files.contents l.fn.files) (texts l.fn.names)))
      (map vec_items l.each.items);
  opened : 1 ≤ l.counter → All (g.F.Files.has_opened l.fn.files) (texts l.fn.names);
  count : vec_len l.each ≡ l.counter;
  room : l.fn.shard_count ≤ vec_capacity l.each;
}
