use Rattle.std.proofs.Common.{◌≡◌, ◌+◌, ◌-◌, ◌<◌, [], ◌++◌, length, set, sym, ap, ◌∙◌, arith}
use Rattle.std.specs.Prelude.{option_to_list}
use Rattle.std.proofs.lemmas.List.{length-drop}
use Rattle.std.proofs.lemmas.List.Sums.{get_or-le-sum_by}
use Rattle.resolver.specs.Owed.{owed_to, given_oldest, owed_count}
use Rattle.resolver.proofs.Queues.{
  answers_of,
  answers_of-given,
  owed_to-queue,
  owed_to-written,
  owed_count-given,
}
use Rattle.resolver.proofs.owed.Owed.pop.Goals as goal
use Rattle.resolver.proofs.owed.Owed.pop.Goals.{After-pop_front}

known : (c : After-pop_front) → c.args.proxy < length (answers_of c.self.inside.queues.items)
known c = let is = ap (λ o. length o.answers) c.self.view_is in omega (arith, is)

given : (c : After-pop_front)
    → answers_of (set c.self.inside.queues.items c.args.proxy c.pop_front.new.self)
    ≡ given_oldest c.args.proxy (answers_of c.self.inside.queues.items)
given c =
    answers_of-given c.self.inside.queues.items c.args.proxy (known c) c.index_mut.result.now
    c.pop_front.new.self c.index_mut.ensures.value c.pop_front.ensures.rest

-- what is owed to the proxy at first
before : (c : After-pop_front)
    → owed_to c.args.proxy (answers_of c.self.inside.queues.items) ≡ c.index_mut.result.now.items
before c =
    owed_to-queue c.self.inside.queues.items c.args.proxy (known c) c.index_mut.result.now
    c.index_mut.ensures.value

oldest : (c : After-pop_front)
    → owed_to c.args.proxy c.args.self.now.answers
    ≡ option_to_list c.pop_front.result
    ++ owed_to c.args.proxy (answers_of (set c.self.inside.queues.items c.args.proxy c.pop_front.new.self))
oldest c =
    sym (ap (λ o. owed_to c.args.proxy o.answers) c.self.view_is)
    ∙ before c ∙ c.pop_front.ensures.items
    ∙ ap (λ answers. option_to_list c.pop_front.result ++ answers)
    (sym (owed_to-written c.self.inside.queues.items c.args.proxy (known c) c.pop_front.new.self))

counted : (c : After-pop_front)
    → owed_count (answers_of (set c.self.inside.queues.items c.args.proxy c.pop_front.new.self))
    + length c.index_mut.result.now.items
    ≡ owed_count (answers_of c.self.inside.queues.items) + (length c.index_mut.result.now.items - 1)
counted c =
    let owed = answers_of c.self.inside.queues.items in
    let many = ap length (before c) in
    let count = ap owed_count (given c) in
    let both = owed_count-given owed c.args.proxy (known c) in
    omega (arith, many, count, both)

pub invariant_of-self : goal.invariant_of-self
invariant_of-self c =
    let d = (goal.at.invariant_of-self c).After-pop_front in
    let count = counted d in
    let same = ap length c.in_err-answer.ensures.items in
    let fewer = ap length c.pop_front.ensures.rest ∙ length-drop 1 c.index_mut.result.now.items in
    record {
      counted = omega (arith, count, same, fewer, c.self.invariant.counted);
      few = omega (arith, count, same, fewer, c.self.invariant.few);
    }

pub returns-in_err-answer-clause-oldest : goal.returns-in_err-answer-clause-oldest
returns-in_err-answer-clause-oldest c =
    let d = (goal.at.returns-in_err-answer-clause-oldest c).After-pop_front in
    rw c.from_residual.ensures (rw c.in_err-answer.was at (oldest d))

pub returns-in_err-answer-clause-answers : goal.returns-in_err-answer-clause-answers
returns-in_err-answer-clause-answers c =
    given (goal.at.returns-in_err-answer-clause-answers c).After-pop_front
    ∙ ap (λ o. given_oldest c.args.proxy o.answers) c.self.view_is

pub overflow_sub-self : goal.overflow_sub-self
overflow_sub-self c =
    let d = (goal.at.overflow_sub-self c).After-pop_front in
    let few = get_or-le-sum_by length (answers_of c.self.inside.queues.items) c.args.proxy [] (known d) in
    let many = ap length (before d ∙ c.in_ok-answer.ensures.items) in
    omega (arith, few, many, c.self.invariant.counted)

pub invariant_of-self-2 : goal.invariant_of-self-2
invariant_of-self-2 c =
    let d = (goal.at.invariant_of-self-2 c).After-pop_front in
    let count = counted d in
    let many = ap length c.in_ok-answer.ensures.items in
    record {
      counted = omega (arith, count, many, c.self.invariant.counted);
      few = omega (arith, count, many, c.self.invariant.few);
    }

pub returns-clause-oldest : goal.returns-clause-oldest
returns-clause-oldest c =
    rw c.in_ok-answer.was at (oldest (goal.at.returns-clause-oldest c).After-pop_front)

pub returns-clause-answers : goal.returns-clause-answers
returns-clause-answers c =
    given (goal.at.returns-clause-answers c).After-pop_front
    ∙ ap (λ o. given_oldest c.args.proxy o.answers) c.self.view_is
