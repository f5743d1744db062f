use Rattle.std.proofs.Common.{◌≡◌, ◌+◌, ◌++◌, length, drop}
use Rattle.std.specs.Prelude.{sum}
use Rattle.archcaraway_c.specs.Points.{keys_given}
use Rattle.archcaraway_c.proofs.given_keys.copy_keys.Given as goal

abbrev pub invariant-loop-index : goal.invariant-loop-index
invariant-loop-index l = record {
  keys : l.keys.items ++ keys_given l.rest (drop l.index l.lengths) ≡ keys_given l.fn.bytes l.lengths;
  bytes : sum (drop l.index l.lengths) + length l.fn.bytes ≡ sum l.lengths + length l.rest;
}
