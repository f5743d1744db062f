use Rattle.std.proofs.Common.{[], ap, subst, ◌∙◌}
use Rattle.keyspace.specs.Judged.{Judged}
use Rattle.keyspace.specs.Writes.{writes_of}
use Rattle.conflict.specs.ConflictSet.{SetState}
use Rattle.proved_callers.proofs.conflict_use.judge_two.Goals as goal

pub returns-clause-first : goal.returns-clause-first
returns-clause-first c =
    subst (λ window. Judged window [] c.args.first.now c.in_ok-one.one)
    (ap (λ (s : SetState). s.window) c.in_ok-set.ensures.empty)
    (c.in_ok-one.ensures.resolves.map.judged [] c.in_ok-set.ensures.remembers.covers)

pub returns-clause-second : goal.returns-clause-second
returns-clause-second c =
    let written = writes_of c.args.first.now c.in_ok-one.one in
    subst (λ window. Judged window written c.args.second.now c.in_ok-two.two)
    (c.in_ok-one.ensures.resolves.window ∙ ap (λ (s : SetState). s.window) c.in_ok-set.ensures.empty)
    (c.in_ok-two.ensures.resolves.map.judged written (c.in_ok-one.ensures.resolves.map.covers [] c.in_ok-set.ensures.remembers.covers))
