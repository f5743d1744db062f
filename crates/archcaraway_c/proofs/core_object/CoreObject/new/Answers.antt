use Rattle.std.proofs.Common.{rules, arith, refl, inl}
use Rattle.std.proofs.lemmas.Grind.{common_steps}
use Rattle.archcaraway_c.proofs.core_object.CoreObject.new.Goals as goal

pub new-requires : goal.new-requires
new-requires c = record {
  settings = record {
    least_proxies = first_of (search rules, grind (arith, common_steps));
    most_proxies = first_of (search rules, grind (arith, common_steps));
    least_window = first_of (search rules, grind (arith, common_steps));
    most_window = first_of (search rules, grind (arith, common_steps));
    least_limit = first_of (search rules, grind (arith, common_steps));
    most_limit = first_of (search rules, grind (arith, common_steps));
  };
}

pub returns-in-Ok-around-clause-within : goal.returns-in-Ok-around-clause-within
returns-in-Ok-around-clause-within c = (
  omega (arith, c.if-proxies-lt1.false),
  omega (arith, c.if-proxies-gt-MAX_PROXIES.false),
  search rules,
)

pub returns-in-Err-clause-refused : goal.returns-in-Err-clause-refused
returns-in-Err-clause-refused c =
    inl (
      (
        omega (arith, c.if-proxies-lt1.false),
        omega (arith, c.if-proxies-gt-MAX_PROXIES.false),
        search rules,
      ),
      refl,
    )
