use Rattle.std.proofs.Common.{arith, rules, refl, ap, Some, w64, ◌∙◌}
use Rattle.std.proofs.lemmas.Int.{to_z-of_z}
use Rattle.boundaries.specs.Written.{boundaries_after_write}
use Rattle.boundaries.proofs.WritingOn.{is_used, is_written, keys_fit, to_write, to_write_still}
use Rattle.boundaries.proofs.boundary_list.Boundaries.write.Goals as goal

pub loop-at_end-init : goal.loop-at_end-init
loop-at_end-init c =
    let e = c.of-new.ensures in
    to_write c.args.range.now _ c.args.self.now c.of-new.result e.start e.end e.version e.at_end c.requires.boundaries

pub overwrite-requires : goal.overwrite-requires
overwrite-requires c =
    let h = c.loop-at_end.invariant in
    record {
      boundaries = h.boundaries;
      keys = keys_fit h c.requires.keys;
      nodes = omega (arith, h.few, h.room, c.requires.nodes);
    }

pub loop-at_end-preserved : goal.loop-at_end-preserved
loop-at_end-preserved c =
    let e = c.with_end-new.ensures in
    to_write_still c.loop-at_end.invariant c.in-Some.at_end c.with_end-new.result e.start e.end e.version
    (e.at_end ∙ ap (λ v. Some v) (to_z-of_z w64 c.in-Some.at_end (search rules))) c.in-Some.ensures.cleared c.in-Some.ensures.room

pub loop-at_end-smaller : goal.loop-at_end-smaller
loop-at_end-smaller c = omega (arith, c.in-Some.ensures.cleared.fewer)

pub returns-clause-boundaries : goal.returns-clause-boundaries
returns-clause-boundaries c =
    is_written c.loop-at_end.invariant (c.in_default.ensures.written refl)
    ∙ ap (λ v. boundaries_after_write c.args.range.now v c.args.self.now.boundaries) (to_z-of_z w64 c.args.version c.ranges.version)

pub returns-clause-spare : goal.returns-clause-spare
returns-clause-spare c = is_used c.loop-at_end.invariant (c.in_default.ensures.written refl)
