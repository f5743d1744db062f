use Rattle.std.proofs.Common.{rules, ◌≡◌, ◌∙◌, sym, true, false, w64, to_z, of_z, ◌&&◌, int_lt, arith, refl, length}
use Rattle.std.proofs.Math.Bool.{and-false}
use Rattle.std.proofs.lemmas.Int.{to_z-of_z}
use Rattle.std.proofs.lemmas.Option.{slice_get_read}
use Rattle.boundaries.proofs.Words.{entries_of}
use Rattle.boundaries.proofs.Removing.{one_stays, one_goes, not_below, is_below, all_kept, all_expired}
use Rattle.boundaries.proofs.expiry.remove_expired.Goals as goal

pub push-requires : goal.push-requires
push-requires c =
    let inv = c.loop-index.invariant.removal in
    omega (arith, c.entries.ensures.most, inv.same_length, inv.counted, c.requires.within)

pub loop-index-init : goal.loop-index-init
loop-index-init c = record {
  removal = rw c.requires.none_removed
      record { counted = omega arith; same_length = refl; ahead = refl; stayed = refl; went = refl };
  headed = λ bytes h. h;
}

pub loop-index-preserved : goal.loop-index-preserved
loop-index-preserved c =
    let now = entries_of c.loop-index.node in
    let edge = to_z w64 (of_z w64 c.args.edge) in
    let last = to_z w64 c.loop-index.last-bits in
    let e = c.index-entries-index.result in
    let same = to_z-of_z w64 e.version (search rules) in
    let is = rw c.entries.ensures.entries at c.index-entries-index.is in
    let inv = c.loop-index.invariant in
    elim c.if-version-edge.branch [
      | goal.then-version-edge w ↦
          let nodes = w.copy.ensures.entries e (slice_get_read now (length now) _ e refl
          (omega (arith, inv.removal.same_length, c.requires.within, c.loop-index-test.true)) is) in
          let both : (int_lt last edge && int_lt e.version edge) ≡ false = elim c.if-last-edge.branch [
            | goal.then-last-edge u ↦ rw (not_below edge last u.if-last-edge.true) refl
            | goal.else-last-edge u ↦
                rw (not_below edge e.version (rw same at (sym u.value-is ∙ w.if-version-edge.true))) (and-false _)
          ] in
          record {
            removal = rw (w.node-is, nodes, w.removed-is, w.kept-is, same)
                (one_stays inv.removal c.requires.within e c.loop-index-test.true is both);
            headed = λ bytes h. rw w.node-is (w.copy.ensures.headed bytes (inv.headed bytes h));
          }
      | goal.else-version-edge w ↦
          let both : (int_lt last edge && int_lt e.version edge) ≡ true = elim c.if-last-edge.branch [
            | goal.then-last-edge u ↦ absurd (cc)
            | goal.else-last-edge u ↦
                let below = is_below edge e.version (rw same at (sym u.value-is ∙ w.if-version-edge.false)) in
                rw (is_below edge last u.if-last-edge.false, below) refl
          ] in
          record {
            removal = rw (w.node-is, w.removed-is, w.push.ensures.items, w.kept-is, same)
                (one_goes inv.removal c.requires.within e c.loop-index-test.true is both);
            headed = λ bytes h. rw w.node-is (inv.headed bytes h);
          }
    ]

pub returns-clause-kept : goal.returns-clause-kept
returns-clause-kept c =
    rw (to_z-of_z w64 c.args.edge c.ranges.edge, to_z-of_z w64 c.args.before c.ranges.before) at
    (all_kept c.loop-index.invariant.removal c.requires.within (omega arith) _ c.remove.ensures.entries)

pub returns-clause-removed : goal.returns-clause-removed
returns-clause-removed c =
    rw (to_z-of_z w64 c.args.edge c.ranges.edge, to_z-of_z w64 c.args.before c.ranges.before) at
    (all_expired c.loop-index.invariant.removal c.requires.within (omega arith))
