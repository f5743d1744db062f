use Rattle.std.proofs.Common.{◌≡◌, ◌-◌, vec_len}
use Rattle.wire.specs.Reading.{places_at}
use Rattle.wire.proofs.Loop.{with_front}
use Rattle.wire.proofs.reply.places_of.Given as goal

abbrev pub invariant-loop : goal.invariant-loop
invariant-loop l =
    (with_front l.places.items (places_at l.least (l.count - l.counter) l.rest) ≡ places_at 0 l.count l.bytes)
    × (vec_len l.places ≡ l.counter)
