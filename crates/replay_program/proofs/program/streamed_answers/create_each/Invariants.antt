use Rattle.std.proofs.Common.{◌≡◌, ◌≤◌, ◌-◌, ◌++◌, List, map}
use Rattle.std.specs.Prelude.{vec_capacity, vec_len}
use Rattle.std.specs.Vec.Iter.{into_iter_items}
use Rattle.replay_arguments.specs.Opening.{contents_each}
use Rattle.replay_program.specs.Program.{texts}
use Rattle.replay_program.proofs.Writers.{padded_list}
use Rattle.replay_program.proofs.program.streamed_answers.create_each.Given as goal

abbrev pub invariant-loop : goal.invariant-loop
invariant-loop g l = record {
  writers : (opened : List _)
      × (map g.F.Writer.Sink.given opened ≡ contents_each (g.F.Files.begun l.fn.files) (texts l.fn.names))
      × (l.records.items ++ padded_list (l.fn.proxies - l.counter) (into_iter_items l.writers) ≡ padded_list l.fn.proxies opened);
  count : vec_len l.records ≡ l.counter;
  room : l.fn.proxies ≤ vec_capacity l.records;
}
