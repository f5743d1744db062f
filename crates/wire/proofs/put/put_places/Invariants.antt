use Rattle.std.proofs.Common.{◌≡◌, ◌++◌, take}
use Rattle.wire.specs.Spelling.{places_text}
use Rattle.wire.proofs.put.put_places.Given as goal

abbrev pub invariant-loop-place : goal.invariant-loop-place
invariant-loop-place l = l.out.items ≡ l.fn.out.items ++ places_text (take l.place-index l.places)
