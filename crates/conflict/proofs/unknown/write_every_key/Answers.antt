use Rattle.std.proofs.Common.{w64, to_z, of_z, subst, ◌∙◌}
use Rattle.std.proofs.lemmas.Int.{to_z-of_z}
use Rattle.keyspace.specs.Writes.{with_write}
use Rattle.stepmap.specs.Covers.{MapCovers}
use Rattle.conflict.specs.Unknown.{every_key}
use Rattle.conflict.proofs.unknown.write_every_key.Goals as goal

pub returns-clause-covers : goal.returns-clause-covers
returns-clause-covers c = λ ws covers.
    let new = c.write.new.self in
    let is = c.of-2.ensures.range ∙ c.range_of_every_key-2.ensures.every in
    subst (λ v. MapCovers new (with_write ws every_key v)) (to_z-of_z w64 c.args.version c.ranges.version)
    (subst (λ r. MapCovers new (with_write ws r (to_z w64 (of_z w64 c.args.version)))) is
    (c.write.ensures.covers ws (c.in_ok-prepare.ensures.covers ws covers)))
