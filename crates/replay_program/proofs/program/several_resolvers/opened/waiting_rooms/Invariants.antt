use Rattle.std.proofs.Common.{◌≡◌, ◌≤◌, length}
use Rattle.std.specs.Prelude.{vec_capacity, vec_len}
use Rattle.std.specs.List.{All}
use Rattle.replay_program.proofs.program.several_resolvers.opened.waiting_rooms.Given as goal

abbrev pub invariant-loop : goal.invariant-loop
invariant-loop l = record {
  places : All (λ room. length room.value ≡ l.fn.proxies) l.rooms.items;
  count : vec_len l.rooms ≡ l.counter;
  room : l.fn.shard_count ≤ vec_capacity l.rooms;
}
