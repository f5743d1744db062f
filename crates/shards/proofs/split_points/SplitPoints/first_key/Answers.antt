use Rattle.std.proofs.Common.{arith, ◌≡◌, ◌-◌, ◌<◌, ◌∙◌, ℕ, suc, List, [], ◌∷◌, length, get_or, ap, sym, refl}
use Rattle.std.proofs.lemmas.Option.{slice_get_read, get_or_from_slice_get}
use Rattle.shards.proofs.ShardList.{length-shards}
use Rattle.shards.proofs.split_points.SplitPoints.first_key.Goals as goal

pub index-requires : goal.index-requires
index-requires c =
    omega (arith, c.self.inside.points.ok.0, ap length c.self.view_is, length-shards [] c.args.self.now)

pub returns-clause-from : goal.returns-clause-from
returns-clause-from c =
    let points = c.self.inside.points.items in
    let before = c.args.shard - 1 in
    let inside : before < length points = omega (arith, c.self.inside.points.ok.0, ap length c.self.view_is, length-shards [] c.args.self.now) in
    let next : suc before ≡ c.args.shard = omega arith in
    c.as_bytes.ensures.bytes
    ∙ sym (get_or_from_slice_get points before c.index.result.now []
    (slice_get_read points _ before c.index.result.now refl inside c.index.ensures))
    ∙ ap (λ (all : List (List ℕ)). get_or all before []) c.self.view_is
    ∙ ap (λ n. get_or ([] ∷ c.args.self.now) n []) next
