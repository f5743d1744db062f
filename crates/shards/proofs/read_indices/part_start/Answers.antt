use Rattle.std.proofs.Common.{◌≡◌, ◌-◌, suc, ◌∷◌, get_or, ap, arith}
use Rattle.shards.proofs.read_indices.part_start.Goals as goal

pub returns-else-index-eq0 : goal.returns-else-index-eq0
returns-else-index-eq0 c =
    let next : suc (c.args.index - 1) ≡ c.args.index = omega arith in
    record { start = ap (λ n. get_or (0 ∷ c.args.ends.now) n 0) next }
