use Rattle.std.proofs.Common.{refl, ◌∙◌, ap, arith}
use Rattle.std.specs.Int.{int_max}
use Rattle.std.proofs.lemmas.Int.{ints, clamps}
use Rattle.keys.specs.Hash.{hash_of}
use Rattle.stepmap.specs.Filter.{FilterState, bound}
use Rattle.stepmap.proofs.Bounds.{range_written}
use Rattle.stepmap.proofs.filter.Filter.write_range.Goals as goal

pub returns-clause-written : goal.returns-clause-written
returns-clause-written c =
    let i = c.self.inside in
    let old : FilterState = record { cells = i.cells.items; newest_range = i.newest_range; newest_key = i.newest_key } in
    λ key. range_written old _ c.args.version refl (omega (arith, ints, clamps, c.max-self-inside.ensures.value)) (hash_of key)
    ∙ ap (λ (f : FilterState). int_max c.args.version (bound f key)) c.self.view_is
