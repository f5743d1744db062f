use Rattle.std.proofs.Common.{◌≡◌, ◌+◌, ℕ, List, map, take, count_by, string_bytes}
use Rattle.std.specs.Str.{bytes_eq}
use Rattle.batches_report.specs.Heat.{heat_of}
use Rattle.batches_report.proofs.heat.Heat.add_names.Given as goal

abbrev pub invariant-loop-name : goal.invariant-loop-name
invariant-loop-name l = (q : List ℕ) → heat_of l.self q
    ≡ heat_of l.fn.self q + count_by (bytes_eq q) (map string_bytes (take l.name-index l.names))
