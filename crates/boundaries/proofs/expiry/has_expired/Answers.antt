use Rattle.std.proofs.Common.{rules, ◌≡◌, ◌∙◌, ◌&&◌, int_lt, refl, false, w64, to_z, of_z, arith}
use Rattle.std.proofs.Math.Bool.{and-false}
use Rattle.std.proofs.lemmas.Int.{to_z-of_z}
use Rattle.std.proofs.lemmas.List.{drop_all}
use Rattle.boundaries.proofs.Removing.{one_found, one_passed}
use Rattle.boundaries.proofs.expiry.has_expired.Goals as goal

pub loop-entry-init : goal.loop-entry-init
loop-entry-init c = refl

pub returns-then-entry-edge : goal.returns-then-entry-edge
returns-then-entry-edge c =
    let e = c.entry-item.result in
    let edge = to_z-of_z w64 c.args.edge c.ranges.edge in
    let before = to_z-of_z w64 c.args.before c.ranges.before in
    let found = one_found (to_z w64 (of_z w64 c.args.edge)) (to_z w64 c.loop-entry.last-bits) _ _ e c.loop-entry-test.true
    c.entry-item.is (rw (c.if-last-edge.true, rw (to_z-of_z w64 e.version (search rules)) at c.if-entry-edge.true) refl) in
    record { expired = (λ _ none. found (rw (← c.loop-entry.invariant, edge, before) none), λ _. refl) }

pub loop-entry-preserved : goal.loop-entry-preserved
loop-entry-preserved c =
    let e = c.entry-item.result in
    let edge = to_z w64 (of_z w64 c.args.edge) in
    let last = to_z w64 c.loop-entry.last-bits in
    let same = to_z-of_z w64 e.version (search rules) in
    let both : (int_lt last edge && int_lt e.version edge) ≡ false = elim c.else-last-edge.branch [
      | goal.else-last-edge-via-then-last-edge+else-entry-edge w ↦
          rw (rw same at w.if-entry-edge.false) (and-false (int_lt last edge))
      | goal.else-last-edge-via-else-last-edge w ↦ rw w.if-last-edge.false refl
    ] in
    rw same (c.loop-entry.invariant ∙ one_passed edge last _ _ e c.loop-entry-test.true c.entry-item.is both)

pub returns : goal.returns
returns c =
    let before = to_z-of_z w64 c.args.before c.ranges.before in
    let following = drop_all c.loop-entry.entry-index c.args.entries.now (omega (arith, c.loop-entry-test.false)) in
    let none = rw (to_z-of_z w64 c.args.edge c.ranges.edge, before, following) at c.loop-entry.invariant in
    record { expired = (λ said. absurd (cc), λ some. absurd (some none)) }
