use Rattle.std.proofs.Common.{◌∙◌}
use Rattle.keys.proofs.SingleEnds.{empty_not_single, single_if_zero, single_unless_zero}
use Rattle.keys.proofs.single_key.is_single_key.Goals as goal

pub returns-in_default : goal.returns-in_default
returns-in_default c = record {
  exact = empty_not_single c.args.begin.now c.args.end.now c.in_default.ensures.cases;
}

pub returns-then-last-eq0 : goal.returns-then-last-eq0
returns-then-last-eq0 c = record {
  exact = c.eq.ensures ∙ single_if_zero c.args.begin.now c.args.end.now c.in-Some.front.now c.in-Some.last.now
      c.in-Some.ensures.cases.0 c.if-last-eq0.true;
}

pub returns-else-last-eq0 : goal.returns-else-last-eq0
returns-else-last-eq0 c = record {
  exact = single_unless_zero c.args.begin.now c.args.end.now c.in-Some.front.now c.in-Some.last.now
      c.in-Some.ensures.cases.0 c.if-last-eq0.false;
}
