use Rattle.keys.proofs.callers.KeyHeads.{head_less, head_at_most, head_same, head_same_long}
use Rattle.keys.proofs.laws.key_heads.Goals as goal

pub returns : goal.returns
returns c = record {
  order = λ a b a_bytes b_bytes. record {
    less = head_less a b a_bytes b_bytes;
    at_most = head_at_most a b a_bytes b_bytes;
    same = head_same a b a_bytes b_bytes;
    same_long = head_same_long a b a_bytes b_bytes;
  };
}
