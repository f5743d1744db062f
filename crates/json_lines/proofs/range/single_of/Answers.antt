use Rattle.std.proofs.Common.{◌≡◌, ◌++◌, ◌∷◌, [], rules}
use Rattle.wire.proofs.callers.Singles.{at_most_end}
use Rattle.json_lines.proofs.range.single_of.Goals as goal

pub new-requires-3 : goal.new-requires-3
new-requires-3 c =
    let begin : c.new.result ≡ c.in_ok-key.key.items = search rules in
    let end : c.new-2.result ≡ c.in_ok-key.key.items ++ 0 ∷ [] = search rules in
    record { ordered = rw (begin, end) (at_most_end c.in_ok-key.key.items) }
