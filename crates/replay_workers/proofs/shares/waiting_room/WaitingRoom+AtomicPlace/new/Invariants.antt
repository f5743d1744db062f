use Rattle.std.proofs.Common.{◌≡◌, ◌≤◌, vec_len, vec_capacity}
use Rattle.replay_workers.proofs.shares.waiting_room.WaitingRoom+AtomicPlace.new.Given as goal

abbrev pub invariant-loop : goal.invariant-loop
invariant-loop l = record {
  places : vec_len l.cells ≡ l.counter;
  room : l.proxies ≤ vec_capacity l.cells;
}
