use Rattle.std.proofs.Common.{rules, ◌≡◌, ◌∙◌, ap, sym, subst, codes, ℤ, SFits, w64, to_z, of_z}
use Rattle.std.specs.Prelude.{None, Some, option_map, pos}
use Rattle.std.specs.Str.Parse.{
  ExplainsSignedError,
  ExplainsUnsignedError,
  HasSignedDigitsIfOk,
  HasUnsignedDigitsIfOk,
  ParsesSigned,
  ParsesUnsigned,
  digits_value,
  signed_digits_value,
  without_leading_plus,
}
use Rattle.std.proofs.lemmas.Int.{to_z-of_z}
use Rattle.clap.specs.Words.{found_of, one_of, rows_of}
use Rattle.replay_arguments.proofs.Getters.{HoldsNumbers-of_parts, one_read}
use Rattle.limits.specs.declared.settings.TheConstants.{MAX_CAPACITY, MAX_LIMIT, MAX_WINDOW}
use Rattle.replay_arguments.proofs.Numbers.{
  IsIn,
  IsSignedWithin,
  Some-injective,
  is_not_none,
  signed_read,
  unsigned_read,
}
use Rattle.replay_arguments.proofs.arguments.asked.options_of.Goals as goal

pub returns-clause-numbers : goal.returns-clause-numbers
returns-clause-numbers c =
    let found = found_of c.args.matches.now in
    let kept = c.new.ensures in
    let looks_back = c.in_ok-get_one-2.field-0 in
    let fits : SFits w64 looks_back = search rules in
    let capacity : option_map (λ text. digits_value 10 (without_leading_plus text))
    (one_of (codes "capacity") (rows_of found)) ≡ Some c.in_ok-get_one.field-0 =
    one_read found (codes "capacity")
    (λ bs r. ParsesUnsigned 64 10 bs r × ExplainsUnsignedError 10 bs r × HasUnsignedDigitsIfOk bs r)
    (λ text. digits_value 10 (without_leading_plus text)) c.in_ok-get_one.field-0
    c.in_ok-get_one.ensures.none c.in_ok-get_one.ensures.value (λ text parses. parses.0.1) in
    let window : option_map (signed_digits_value 10) (one_of (codes "window") (rows_of found))
    ≡ Some c.in_ok-get_one-2.field-0 =
    one_read found (codes "window")
    (λ bs r. ParsesSigned w64 10 bs r × ExplainsSignedError 10 bs r × HasSignedDigitsIfOk bs r)
    (signed_digits_value 10) c.in_ok-get_one-2.field-0
    c.in_ok-get_one-2.ensures.none c.in_ok-get_one-2.ensures.value (λ text parses. parses.0.1) in
    let limit : option_map (λ text. digits_value 10 (without_leading_plus text))
    (one_of (codes "limit") (rows_of found)) ≡ Some c.in_ok-get_one-3.field-0 =
    one_read found (codes "limit")
    (λ bs r. ParsesUnsigned 64 10 bs r × ExplainsUnsignedError 10 bs r × HasUnsignedDigitsIfOk bs r)
    (λ text. digits_value 10 (without_leading_plus text)) c.in_ok-get_one-3.field-0
    c.in_ok-get_one-3.ensures.none c.in_ok-get_one-3.ensures.value (λ text parses. parses.0.1) in
    HoldsNumbers-of_parts (rows_of found) c.new.result _ _ _ kept.capacity kept.window kept.limit
    capacity (window ∙ ap (λ (n : ℤ). Some n) (sym (to_z-of_z w64 looks_back fits))) limit

pub returns-in_err-get_one-clause-none : goal.returns-in_err-get_one-clause-none
returns-in_err-get_one-clause-none c = λ is has.
    let read = unsigned_read (found_of c.args.matches.now) (codes "capacity") (ExplainsUnsignedError 10) HasUnsignedDigitsIfOk 1 MAX_CAPACITY c.get_one.result
    c.get_one.ensures.value has.capacity in
    let bad : None ≡ Some read.0 = sym c.in_err-get_one.was ∙ read.1 in
    cc

pub returns-in_err-get_one-2-clause-none : goal.returns-in_err-get_one-2-clause-none
returns-in_err-get_one-2-clause-none c = λ is has.
    let read = signed_read (found_of c.args.matches.now) (codes "window") (ExplainsSignedError 10) HasSignedDigitsIfOk (pos 1) MAX_WINDOW c.get_one-2.result
    c.get_one-2.ensures.value has.window in
    let bad : None ≡ Some read.0 = sym c.in_err-get_one-2.was ∙ read.1 in
    cc

pub returns-in_err-get_one-3-clause-none : goal.returns-in_err-get_one-3-clause-none
returns-in_err-get_one-3-clause-none c = λ is has.
    let read = unsigned_read (found_of c.args.matches.now) (codes "limit") (ExplainsUnsignedError 10) HasUnsignedDigitsIfOk 1 MAX_LIMIT c.get_one-3.result
    c.get_one-3.ensures.value has.limit in
    let bad : None ≡ Some read.0 = sym c.in_err-get_one-3.was ∙ read.1 in
    cc

pub returns-clause-none : goal.returns-clause-none
returns-clause-none c = λ is has.
    let found = found_of c.args.matches.now in
    let looks_back = c.in_ok-get_one-2.field-0 in
    let fits : SFits w64 looks_back = search rules in
    let capacity = unsigned_read found (codes "capacity") (ExplainsUnsignedError 10) HasUnsignedDigitsIfOk 1 MAX_CAPACITY (Some c.in_ok-get_one.field-0)
    c.in_ok-get_one.ensures.value has.capacity in
    let window = signed_read found (codes "window") (ExplainsSignedError 10) HasSignedDigitsIfOk (pos 1) MAX_WINDOW (Some looks_back)
    c.in_ok-get_one-2.ensures.value has.window in
    let limit = unsigned_read found (codes "limit") (ExplainsUnsignedError 10) HasUnsignedDigitsIfOk 1 MAX_LIMIT (Some c.in_ok-get_one-3.field-0)
    c.in_ok-get_one-3.ensures.value has.limit in
    let within : IsIn 1 MAX_CAPACITY c.in_ok-get_one.field-0 =
    subst (IsIn 1 MAX_CAPACITY) (sym (Some-injective capacity.1)) capacity.2 in
    let back : IsSignedWithin (pos 1) MAX_WINDOW looks_back =
    subst (IsSignedWithin (pos 1) MAX_WINDOW) (sym (Some-injective window.1)) window.2 in
    let known : IsSignedWithin (pos 1) MAX_WINDOW (to_z w64 (of_z w64 looks_back)) =
    subst (IsSignedWithin (pos 1) MAX_WINDOW) (sym (to_z-of_z w64 looks_back fits)) back in
    let few : IsIn 1 MAX_LIMIT c.in_ok-get_one-3.field-0 =
    subst (IsIn 1 MAX_LIMIT) (sym (Some-injective limit.1)) limit.2 in
    is_not_none c.new.result (c.new.ensures.some.1 (within.0, within.1, known.0, known.1, few.0, few.1)) is
