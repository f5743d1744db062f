use Rattle.std.proofs.Common.{◌≡◌, ◌<◌, length, set, ap, ◌∙◌, arith}
use Rattle.resolver.specs.Owed.{owed_also, owed_count}
use Rattle.resolver.proofs.Queues.{answers_of, answers_of-also, owed_count-also}
use Rattle.resolver.proofs.owed.Owed.push.Goals as goal
use Rattle.resolver.proofs.owed.Owed.push.Goals.{After-push_back_reserved}

known : (c : After-push_back_reserved) → c.args.proxy < length (answers_of c.self.inside.queues.items)
known c = let is = ap (λ o. length o.answers) c.self.view_is in omega (arith, is)

also : (c : After-push_back_reserved)
    → answers_of (set c.self.inside.queues.items c.args.proxy c.push_back_reserved.new.self)
    ≡ owed_also c.args.proxy c.args.answer (answers_of c.self.inside.queues.items)
also c =
    answers_of-also c.self.inside.queues.items c.args.proxy (known c) c.index_mut.result.now
    c.push_back_reserved.new.self c.args.answer c.index_mut.ensures.value c.push_back_reserved.ensures.items

pub invariant_of-self : goal.invariant_of-self
invariant_of-self c =
    let d = (goal.at.invariant_of-self c).After-push_back_reserved in
    let owed = answers_of c.self.inside.queues.items in
    let more = owed_count-also owed c.args.proxy c.args.answer (known d) in
    let count = ap owed_count (also d) in
    let room = c.requires.room.all in
    let is = ap (λ o. owed_count o.answers) c.self.view_is in
    record {
      counted = omega (arith, more, count, c.self.invariant.counted);
      few = omega (arith, more, count, is, room);
    }

pub returns : goal.returns
returns c = record {
  answers =
      also (goal.at.returns c).After-push_back_reserved
      ∙ ap (λ o. owed_also c.args.proxy c.args.answer o.answers) c.self.view_is;
}
