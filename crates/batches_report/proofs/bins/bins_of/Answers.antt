use Rattle.std.proofs.Common.{◌≡◌, ◌≤ℤ◌, ◌<ℤ◌, ◌+ℤ◌, pos, refl, w64, SFits, to_z, of_z, arith, rules}
use Rattle.std.proofs.lemmas.Int.{ints, to_z-of_z}
use Rattle.batches_report.proofs.Parting.{parts_all, parts_more, totals_more}
use Rattle.batches_report.proofs.bins.bins_of.Goals as goal

pub returns-then-last-greatest-clause-parts : goal.returns-then-last-greatest-clause-parts
returns-then-last-greatest-clause-parts c =
    let inv = c.loop-bins.invariant in
    let fits_low : SFits w64 c.in-Some.least = search rules in
    let fits_high : SFits w64 c.in-Some.greatest = search rules in
    let fits_last : SFits w64 c.last_of-last.result = search rules in
    let is_low = to_z-of_z w64 c.in-Some.least fits_low in
    let is_high = to_z-of_z w64 c.in-Some.greatest fits_high in
    let is_last = to_z-of_z w64 c.last_of-last.result fits_last in
    let up : to_z w64 c.loop-bins.first-bits ≤ℤ to_z w64 (of_z w64 c.last_of-last.result) = omega (arith, ints, c.last_of-last.ensures.least, is_last) in
    let begins : to_z w64 (of_z w64 c.in-Some.least) ≤ℤ c.in-Some.least = omega (arith, ints, is_low) in
    let ends : to_z w64 (of_z w64 c.in-Some.greatest) ≤ℤ to_z w64 (of_z w64 c.last_of-last.result) = grind (arith, ints, c.if-last-greatest.true) in
    parts_all c.args.rows.now c.loop-bins.bins.items c.push.new.self.items _ _ c.in-Some.least c.in-Some.greatest _
    c.in_ok-push.ensures.items inv.part inv.from refl up begins (omega (arith, ints, ends, is_high)) c.in-Some.ensures.within

pub loop-bins-preserved : goal.loop-bins-preserved
loop-bins-preserved c =
    let inv = c.loop-bins.invariant in
    let fits_high : SFits w64 c.in-Some.greatest = search rules in
    let fits_last : SFits w64 c.last_of-last.result = search rules in
    let is_high = to_z-of_z w64 c.in-Some.greatest fits_high in
    let is_last = to_z-of_z w64 c.last_of-last.result fits_last in
    let up : to_z w64 c.loop-bins.first-bits ≤ℤ to_z w64 (of_z w64 c.last_of-last.result) = omega (arith, ints, c.last_of-last.ensures.least, is_last) in
    let below : to_z w64 (of_z w64 c.last_of-last.result) <ℤ to_z w64 (of_z w64 c.in-Some.greatest) = grind (arith, ints, c.if-last-greatest.false) in
    let fits_next : SFits w64 (to_z w64 (of_z w64 c.last_of-last.result) +ℤ pos 1) = search rules in
    let is_next = to_z-of_z w64 (to_z w64 (of_z w64 c.last_of-last.result) +ℤ pos 1) fits_next in record {
      part =
          parts_more c.loop-bins.bins.items c.push.new.self.items _ _ _ _ c.in_ok-push.ensures.items inv.part inv.from refl up is_next;
      from = omega (arith, ints, inv.from, up, is_next);
      within = omega (arith, ints, below, is_next);
      totals =
          totals_more c.args.rows.now c.loop-bins.bins.items c.push.new.self.items _ c.in_ok-push.ensures.items inv.totals
          c.totals_between.ensures.totals;
    }
