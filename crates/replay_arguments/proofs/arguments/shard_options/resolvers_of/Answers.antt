use Rattle.std.proofs.Common.{◌≡◌, ◌∙◌, ℕ, ◌≤◌, sym, subst, codes, rules, arith}
use Rattle.std.specs.Prelude.{None, Some, false}
use Rattle.std.proofs.lemmas.Bool.{false≢true}
use Rattle.std.specs.Str.Parse.{ExplainsUnsignedError, HasUnsignedDigitsIfOk, ParsesUnsigned, digits_value, without_leading_plus}
use Rattle.clap.specs.Words.{found_of}
use Rattle.replay_arguments.specs.declared.arguments.shard_options.TheConstants.{MAX_RESOLVERS}
use Rattle.replay_arguments.proofs.Getters.{one_read}
use Rattle.replay_arguments.proofs.Numbers.{IsIn, Some-injective, unsigned_read}
use Rattle.replay_arguments.proofs.arguments.shard_options.resolvers_of.Goals as goal

pub returns-in_err-resolvers-clause-none : goal.returns-in_err-resolvers-clause-none
returns-in_err-resolvers-clause-none c = λ is has.
    let read = unsigned_read (found_of c.args.matches.now) (codes "resolvers") (ExplainsUnsignedError 10) HasUnsignedDigitsIfOk 1 MAX_RESOLVERS c.get_one.result
    c.get_one.ensures.value has in
    let bad : None ≡ Some read.0 = sym c.in_err-resolvers.was ∙ read.1 in
    cc

pub returns-then-not-is_within-clause-none : goal.returns-then-not-is_within-clause-none
returns-then-not-is_within-clause-none c = λ is has.
    let n = c.in_ok-resolvers.resolvers in
    let read = unsigned_read (found_of c.args.matches.now) (codes "resolvers") (ExplainsUnsignedError 10) HasUnsignedDigitsIfOk 1 MAX_RESOLVERS (Some n)
    c.in_ok-resolvers.ensures.value has in
    let within : IsIn 1 MAX_RESOLVERS n = subst (IsIn 1 MAX_RESOLVERS) (sym (Some-injective read.1)) read.2 in
    let no : c.is_within.result ≡ false = search rules in
    false≢true (sym no ∙ c.is_within.ensures.within.1 within)

pub returns-clause-resolvers : goal.returns-clause-resolvers
returns-clause-resolvers c =
    let n = c.in_ok-resolvers.resolvers in
    let within = c.is_within.ensures.within.0 (search rules) in
    record {
      number =
          one_read (found_of c.args.matches.now) (codes "resolvers")
          (λ bs r. ParsesUnsigned 64 10 bs r × ExplainsUnsignedError 10 bs r × HasUnsignedDigitsIfOk bs r)
          (λ text. digits_value 10 (without_leading_plus text)) n c.in_ok-resolvers.ensures.none c.in_ok-resolvers.ensures.value
          (λ text parses. parses.0.1);
      least = within.0;
      most = within.1;
    }
