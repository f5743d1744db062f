use Rattle.std.proofs.Common.{rules, ℤ, pos, negsuc, ◌≤ℤ◌, FitsSigned, w64, arith, sym, subst}
use Rattle.std.proofs.Common.{◌∙◌}
use Rattle.std.proofs.lemmas.Int.{ints, to_z-of_z}
use Rattle.archcaraway_c.specs.Numbers.{AreSetNumbers}
use Rattle.archcaraway_c.proofs.set_object.SetObject.new_at.Goals as goal

pub returns-in-Ok-clause-within : goal.returns-in-Ok-clause-within
returns-in-Ok-clause-within c =
    let fits : FitsSigned w64 c.args.version = search rules in
    let same = to_z-of_z w64 c.args.version fits in
    let numbers : AreSetNumbers c.args.window c.args.limit = search rules in
    let least : negsuc 0 ≤ℤ c.args.version =
    grind (arith, ints, c.if-version-ltminus1.false, same) in
    (numbers, least)

pub returns-in-Ok-clause-room : goal.returns-in-Ok-clause-room
returns-in-Ok-clause-room c = λ small.
    let fits : FitsSigned w64 c.args.version = search rules in
    let same = to_z-of_z w64 c.args.version fits in
    let natural = subst (λ (version : ℤ). pos 0 ≤ℤ version) (sym same) small.0 in
    let contrary = sym c.in-Ok.is ∙ c.new_at.ensures.full.1 (natural, small.1) in
    absurd cc
