use Rattle.std.proofs.Common.{ℕ, List, sym, subst, ◌∙◌}
use Rattle.keys.specs.Key.{IsAtMost}
use Rattle.batches_tasks.proofs.EveryKey.{empty_is_first}
use Rattle.batches_tasks.proofs.opening_batch.range_of_every_key.Goals as goal

pub new-requires-4 : goal.new-requires-4
new-requires-4 c = record {
  ordered = subst (λ (key : List ℕ). IsAtMost key c.new-3.result) (sym (c.new-2.ensures.bytes ∙ c.new.ensures.items))
      (empty_is_first c.new-3.result);
}

pub returns-clause-range : goal.returns-clause-range
returns-clause-range c = λ i. record {
  begin = (c.new-4.ensures.begin ∙ c.new-2.ensures.bytes ∙ c.new.ensures.items) i;
  end = (c.new-4.ensures.end ∙ c.new-3.ensures.bytes ∙ c.in_ok-greatest.ensures.bytes) i;
}
