use Rattle.std.proofs.Common.{arith}
use Rattle.keys.proofs.Singled.{all_single_if, some_hash}
use Rattle.keys.proofs.key_hashes.are_all_single.Goals as goal

pub returns : goal.returns
returns c = record {
  single = λ determined ranges hashed.
      all_single_if ranges c.args.hashes.now (some_hash c.args.hashes.now c.is_empty.result c.is_empty.ensures determined)
      (λ k below. c.loop-hash.invariant k (omega (arith, below, c.loop-hash-test.false))) hashed;
}
