use Rattle.std.proofs.Common.{◌≡◌, ◌≤◌, ◌≤ℤ◌, All, length, get_or, take, take_all, pos, subst, w64, SFits, to_z, of_z, rules, arith}
use Rattle.std.proofs.lemmas.Int.{ints, to_z-of_z}
use Rattle.batches_report.specs.Bins.{IsWithin}
use Rattle.batches_report.specs.declared.row.TxnRow.{TxnRow}
use Rattle.batches_report.proofs.Adding.{within_more}
use Rattle.batches_report.proofs.bins.versions_of.Goals as goal

pub loop-row-preserved : goal.loop-row-preserved
loop-row-preserved c =
    let low = c.min-least.ensures in
    let high = c.max-greatest.ensures in
    let none : TxnRow = record { version = pos 0; txns = 0; conflicts = 0; too_old = 0; reported = 0 } in
    let v = (get_or c.args.rows.now c.loop-row.row-index none).version in
    let fits : SFits w64 v = search rules in
    let same = to_z-of_z w64 v fits in
    let fits_low : SFits w64 c.min-least.result = search rules in
    let fits_high : SFits w64 c.max-greatest.result = search rules in
    let is_low = to_z-of_z w64 c.min-least.result fits_low in
    let is_high = to_z-of_z w64 c.max-greatest.result fits_high in (
      within_more (to_z w64 c.loop-row.least-bits) (to_z w64 c.loop-row.greatest-bits) (to_z w64 (of_z w64 c.min-least.result))
          (to_z w64 (of_z w64 c.max-greatest.result)) c.args.rows.now c.loop-row.row-index none c.loop-row-test.true
          (omega (arith, ints, low.self_bound, is_low)) (omega (arith, ints, high.self_bound, is_high))
          (omega (arith, ints, low.other_bound, is_low, same)) (omega (arith, ints, high.other_bound, is_high, same))
          c.loop-row.invariant.0,
      omega (arith, ints, low.self_bound, high.self_bound, is_low, is_high, c.loop-row.invariant.1),
    )

pub returns-clause-within : goal.returns-clause-within
returns-clause-within c =
    let past : length c.args.rows.now ≤ c.loop-row.row-index = omega (arith, c.loop-row-test.false) in
    subst (All (IsWithin (to_z w64 c.loop-row.least-bits) (to_z w64 c.loop-row.greatest-bits)))
    (take_all c.loop-row.row-index c.args.rows.now past) c.loop-row.invariant.0
