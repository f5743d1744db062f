use Rattle.std.proofs.Common.{◌∙◌, sym}
use Rattle.boundaries.proofs.BoundTests.{below_by_key, equal_passes, greater_fails, less_passes, none_below}
use Rattle.boundaries.proofs.key_bound.KeyBound.is_below.Goals as goal

pub returns-then-not-is_live : goal.returns-then-not-is_live
returns-then-not-is_live c = record {
  is_below = none_below c.args.keys.now c.args.self c.args.slot (sym c.is_live.ensures.live ∙ c.if-not-is_live.true);
}

pub returns-in-Less : goal.returns-in-Less
returns-in-Less c = record {
  is_below = less_passes c.args.self.up_to c.args.self.key.now c.key.result.now (sym c.cmp.ensures ∙ c.in-Less.is)
      ∙ below_by_key c.args.keys.now c.args.self c.args.slot c.key.result.now c.key.ensures.key;
}

pub returns-in-Equal : goal.returns-in-Equal
returns-in-Equal c = record {
  is_below = equal_passes c.args.self.up_to c.args.self.key.now c.key.result.now (sym c.cmp.ensures ∙ c.in-Equal.is)
      ∙ below_by_key c.args.keys.now c.args.self c.args.slot c.key.result.now c.key.ensures.key;
}

pub returns-in-Greater : goal.returns-in-Greater
returns-in-Greater c = record {
  is_below = greater_fails c.args.self.up_to c.args.self.key.now c.key.result.now (sym c.cmp.ensures ∙ c.in-Greater.is)
      ∙ below_by_key c.args.keys.now c.args.self c.args.slot c.key.result.now c.key.ensures.key;
}
