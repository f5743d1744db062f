use Rattle.std.proofs.Common.{◌≡◌, pos, negsuc, int_le, int_lt, ◌&&◌, true, refl, arith, rules, SFits, w64}
use Rattle.std.proofs.lemmas.Int.{ints, to_z-of_z}
use Rattle.keys.proofs.callers.Booleans.{and_both}
use Rattle.wire.specs.Reading.{header_at}
use Rattle.wire.proofs.Steps.{version_taken}
use Rattle.wire.proofs.batch.header_of.Goals as goal

pub returns-clause-reads : goal.returns-clause-reads
unfolding header_at
returns-clause-reads c =
    let previous = c.in_ok-previous.previous in
    let version = c.in_ok-version.version in
    let received = c.in_ok-received.received in
    let fits_previous : SFits w64 previous = search rules in
    let fits_version : SFits w64 version = search rules in
    let fits_received : SFits w64 received = search rules in
    let same_previous = to_z-of_z w64 previous fits_previous in
    let same_version = to_z-of_z w64 version fits_version in
    let same_received = to_z-of_z w64 received fits_received in
    let previous_from : int_le (negsuc 0) previous ≡ true = grind (arith, ints) in
    let natural : int_le (pos 0) version ≡ true = grind (arith, ints) in
    let rises : int_lt previous version ≡ true = grind (arith, ints) in
    let received_from : int_le (negsuc 0) received ≡ true = grind (arith, ints) in
    let received_before : int_lt received version ≡ true = grind (arith, ints) in
    let one = version_taken (λ v. int_le (negsuc 0) v) _ _ _ c.in_ok-previous.ensures.reads previous_from in
    let two = version_taken (λ v. int_le (pos 0) v && int_lt previous v) _ _ _ c.in_ok-version.ensures.reads
    (and_both _ _ natural rises) in
    let three = version_taken (λ v. int_le (negsuc 0) v && int_lt v version) _ _ _
    c.in_ok-received.ensures.reads (and_both _ _ received_from received_before) in
    rw (same_previous, same_version, same_received, one, two, three) refl
