use Rattle.std.proofs.Common.{List, ℕ, length, ap, ◌∙◌, arith}
use Rattle.keys.specs.declared.key.TheConstants.{MAX_KEY_LENGTH}
use Rattle.keyspace.proofs.callers.SameFields.{same_range}
use Rattle.conflict.specs.Unknown.{length-greatest_of_length, empty_is_first, every_key}
use Rattle.conflict.proofs.unknown.range_of_every_key.Goals as goal

pub new-requires-clause-end : goal.new-requires-clause-end
new-requires-clause-end c =
    let count = ap (λ (key : List ℕ). length key) c.requires.greatest ∙ length-greatest_of_length MAX_KEY_LENGTH in
    omega (arith, count)

pub new-requires-clause-ordered : goal.new-requires-clause-ordered
new-requires-clause-ordered c = empty_is_first c.args.greatest.now

pub returns : goal.returns
returns c = record {
  every = same_range c.new.result every_key (λ i. record {
    begin = c.new.ensures.begin i;
    end = (c.new.ensures.end ∙ c.requires.greatest) i;
  });
}
