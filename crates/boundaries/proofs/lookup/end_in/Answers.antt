use Rattle.std.proofs.Common.{◌∙◌, sym, arith}
use Rattle.boundaries.specs.Question.{begun, before_end, bound_after}
use Rattle.boundaries.proofs.Words.{entries_of}
use Rattle.boundaries.proofs.NearBounds.{no_more}
use Rattle.boundaries.proofs.QuestionBounds.{nested, same_below}
use Rattle.boundaries.proofs.lookup.end_in.Goals as goal

pub returns-then-question : goal.returns-then-question
returns-then-question c =
    let es = entries_of c.args.node.now in
    let keys = c.args.store.now.keys in
    let q = c.args.question.now in
    let same = same_below keys q c.if-question.true in
    let more = no_more (begun keys q) (before_end keys q) (nested keys q) es in
    let fewer = no_more (before_end keys q) (begun keys q) (λ key below. sym (same key) ∙ below) es in
    let begin = c.requires.begin in
    record { count = record { within = begin.within; count_is = omega (arith, begin.count_is, more, fewer) } }

pub head_beside-head-requires : goal.head_beside-head-requires
head_beside-head-requires c =
    let s = c.requires.searched in record {
      searched = rw c.to.ensures.bound record {
        other = bound_after c.args.question.now;
        can_step = s.can_step;
        head = s.head;
        common = c.args.question.now.common;
      };
    }

pub lower_bound_from-requires : goal.lower_bound_from-requires
lower_bound_from-requires c =
    let keys = c.args.store.now.keys in
    let q = c.args.question.now in
    let more = no_more (begun keys q) (before_end keys q) (nested keys q) (entries_of c.args.node.now) in
    let head = rw c.to.ensures.bound at c.head_beside-head.ensures.head in
    record {
      can_find = rw c.to-2.ensures.bound c.requires.to;
      head = rw c.to-2.ensures.bound head;
      least = rw c.to-2.ensures.bound (omega (arith, c.requires.begin.count_is, more));
    }

pub returns : goal.returns
returns c = record { count = rw c.to-2.ensures.bound at c.lower_bound_from.ensures.count }
