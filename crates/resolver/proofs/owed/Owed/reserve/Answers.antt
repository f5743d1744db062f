use Rattle.std.proofs.Common.{◌≡◌, ◌<◌, length, set, sym, ap, subst, ◌∙◌, arith}
use Rattle.std.proofs.lemmas.Result.{on_ok_weaker}
use Rattle.resolver.specs.Owed.{owed_count, AreCounted}
use Rattle.resolver.proofs.Queues.{answers_of, answers_of-same, HasRoomFor-written}
use Rattle.resolver.proofs.owed.Owed.reserve.Goals as goal

known : (c : goal.After-self-1) → c.args.proxy < length (answers_of c.self.inside.queues.items)
known c = let is = ap (λ o. length o.answers) c.self.view_is in omega (arith, is)

same : (c : goal.After-self-1)
    → answers_of (set c.self.inside.queues.items c.args.proxy c.reserve.new.self)
    ≡ answers_of c.self.inside.queues.items
same c =
    answers_of-same c.self.inside.queues.items c.args.proxy (known c) c.index_mut.result.now
    c.reserve.new.self c.index_mut.ensures.value c.reserve.ensures.items

pub invariant_of-self : goal.invariant_of-self
invariant_of-self c = subst (λ owed. AreCounted owed c.self.inside.count) (sym (same c)) c.self.invariant

pub returns-clause-room : goal.returns-clause-room
returns-clause-room c =
    on_ok_weaker c.reserve.result
    (λ room. HasRoomFor-written c.self.inside.queues.items c.args.proxy (known c) c.reserve.new.self
    room (let count = ap owed_count (same c) in omega (arith, count, c.self.invariant)))
    c.reserve.ensures.ok

pub returns-clause-same : goal.returns-clause-same
returns-clause-same c = same c ∙ ap (λ o. o.answers) c.self.view_is
