use Rattle.std.proofs.Common.{◌≡◌, ◌∙◌, ap₂, arith}
use Rattle.std.specs.Prelude.{nat_lt}
use Rattle.keys.specs.Head.{head_of}
use Rattle.shards.proofs.HeadOrder.{before_by_heads}
use Rattle.shards.proofs.headed_key.HeadedKey.is_before.Goals as goal

pub returns : goal.returns
returns c =
    let one = c.args.self.now in
    let other = c.args.other.now in
    let differ : head_of one.key.now ≡ head_of other.key.now → ⊥ = λ same. omega (arith, same, one.headed, other.headed) in
    record {
      before = ap₂ nat_lt one.headed other.headed
          ∙ before_by_heads c.key_heads.ensures.order one.key.now other.key.now one.bytes other.bytes differ;
    }
