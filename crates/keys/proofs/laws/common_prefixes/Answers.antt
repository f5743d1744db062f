use Rattle.keys.proofs.callers.KeyHeads.{after_common, after_shorter, after_differing}
use Rattle.keys.proofs.laws.common_prefixes.Goals as goal

pub returns : goal.returns
returns c = record {
  order = λ n a b equal. record {
    rests = after_common n a b equal.in_first equal.in_second equal.same;
    shorter = λ a_length in_b. after_shorter n a b a_length in_b equal.same;
    differing = λ in_a in_b less. after_differing n a b in_a in_b equal.same less;
  };
}
