use Rattle.std.proofs.Common.{rules, ℤ, pos, negsuc, ◌≤ℤ◌, FitsSigned, w64, arith, refl, inr}
use Rattle.std.proofs.lemmas.Grind.{common_steps}
use Rattle.std.proofs.Common.{sym, subst, ◌∙◌}
use Rattle.std.proofs.lemmas.Int.{ints, to_z-of_z}
use Rattle.archcaraway_c.specs.Numbers.{AreSetNumbers}
use Rattle.archcaraway_c.proofs.core_object.CoreObject.new_at.Goals as goal

pub new_at-requires-clause-settings : goal.new_at-requires-clause-settings
new_at-requires-clause-settings c = record {
  least_proxies = first_of (search rules, grind (arith, common_steps));
  most_proxies = first_of (search rules, grind (arith, common_steps));
  least_window = first_of (search rules, grind (arith, common_steps));
  most_window = first_of (search rules, grind (arith, common_steps));
  least_limit = first_of (search rules, grind (arith, common_steps));
  most_limit = first_of (search rules, grind (arith, common_steps));
}

pub returns-in-Err-around-clause-refused : goal.returns-in-Err-around-clause-refused
returns-in-Err-around-clause-refused c =
    let fits : FitsSigned w64 c.args.version = search rules in
    let same = to_z-of_z w64 c.args.version fits in
    let numbers : AreSetNumbers c.args.window c.args.limit = search rules in
    let least : negsuc 0 ≤ℤ c.args.version =
    omega (arith, ints, c.if-version-ltminus1.false, same) in
    inr (
      (
        (
          omega (arith, c.if-proxies-lt1.false),
          omega (arith, c.if-proxies-gt-MAX_PROXIES.false),
          numbers,
        ),
        least,
      ),
      inr (
        λ small.
            let natural = subst (λ (version : ℤ). pos 0 ≤ℤ version) (sym same) small.0 in
            let contrary = sym c.in-Ok.is ∙ c.new_at.ensures.full.1 (natural, small.1) in
            absurd cc,
        refl,
      ),
    )

pub returns-in-Ok-around-clause-within : goal.returns-in-Ok-around-clause-within
returns-in-Ok-around-clause-within c =
    let fits : FitsSigned w64 c.args.version = search rules in
    let same = to_z-of_z w64 c.args.version fits in
    let numbers : AreSetNumbers c.args.window c.args.limit = search rules in
    let least : negsuc 0 ≤ℤ c.args.version =
    omega (arith, ints, c.if-version-ltminus1.false, same) in (
      (
        omega (arith, c.if-proxies-lt1.false),
        omega (arith, c.if-proxies-gt-MAX_PROXIES.false),
        numbers,
      ),
      least,
    )

pub returns-in-Ok-around-clause-room : goal.returns-in-Ok-around-clause-room
returns-in-Ok-around-clause-room c = λ small.
    let fits : FitsSigned w64 c.args.version = search rules in
    let same = to_z-of_z w64 c.args.version fits in
    let natural = subst (λ (version : ℤ). pos 0 ≤ℤ version) (sym same) small.0 in
    let contrary = sym c.in-Ok.is ∙ c.new_at.ensures.full.1 (natural, small.1) in
    absurd cc
