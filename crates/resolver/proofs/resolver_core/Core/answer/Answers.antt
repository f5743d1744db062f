use Rattle.std.proofs.Common.{rules, w64, SFits, ◌≡◌, sym, ap, subst, ◌∙◌, arith}
use Rattle.std.proofs.lemmas.Int.{to_z-of_z, ints}
use Rattle.std.proofs.lemmas.Result.{on_ok_weaker}
use Rattle.keyspace.specs.Found.{found}
use Rattle.keyspace.specs.Run.{State, answer}
use Rattle.limits.specs.declared.stop.Stop.TheVariants.{GateFull, ArenaFull}
use Rattle.resolver.specs.Core.{CoreState, IsIn}
use Rattle.resolver.proofs.Admitting.{admit-repeat, admit-process, less_from_test}
use Rattle.resolver.proofs.Stops.{OnOk-always, OnErr-always, memory_alone}
use Rattle.resolver.proofs.resolver_core.Core.answer.Given.{Over}
use Rattle.resolver.proofs.resolver_core.Core.answer.Goals as goal

-- the batch is the next
next : (g : Over) (c : goal.After-process g) → c.args.batch.previous ≡ c.args.self.now.version
next g c =
    let previous : SFits w64 c.args.batch.previous = search rules in
    let version : SFits w64 c.self.inside.version = search rules in
    let is = ap (λ b. b.version) c.self.view_is in
    let test = c.if-batch-self.false in
    grind (arith, ints)

pub returns-then-batch-self-clause-answers : goal.returns-then-batch-self-clause-answers
returns-then-batch-self-clause-answers g c = record {
  advances = record {
    ok =
        on_ok_weaker c.repeat.result (λ ok state given are.
        let proxy = c.args.proxy in
        let b = c.args.batch in
        let fits : SFits w64 b.version = search rules in
        let previous : SFits w64 b.previous = search rules in
        let version : SFits w64 c.self.inside.version = search rules in
        let is = ap (λ k. k.version) c.self.view_is in
        let below = less_from_test b.previous c.self.inside.version previous version c.if-batch-self.true in
        let admitted = admit-repeat c.args.self.now.set.window proxy b state
        (omega (arith, ints, is, are.version, below)) in
        subst (λ s. IsIn s given c.repeat.new.self)
        (ap (λ v. answer proxy (found state.processed proxy v) state) (to_z-of_z w64 b.version fits)
        ∙ sym admitted)
        (ok state given are)) c.repeat.ensures.advances.ok;
    err = c.repeat.ensures.advances.err;
    continues = c.repeat.ensures.advances.continues;
  };
  «open» =
      OnOk-always c.repeat.result (ap (λ (k : CoreState). k.stop) c.repeat.ensures.others ∙ c.requires.«open»);
  held = ap (λ (k : CoreState). k.held) c.repeat.ensures.others;
  not_gate = λ is. let memory = memory_alone c.repeat.result GateFull c.repeat.ensures.memory is in cc;
  arena_full = λ is state given are.
      let memory = memory_alone c.repeat.result ArenaFull c.repeat.ensures.memory is in absurd cc;
}

pub returns-else-batch-self-clause-answers : goal.returns-else-batch-self-clause-answers
returns-else-batch-self-clause-answers g c = record {
  advances = record {
    ok =
        on_ok_weaker c.process.result (λ ok state given are.
        let window = c.args.self.now.set.window in
        let admitted = admit-process window c.args.proxy c.args.batch state (next g c ∙ are.version) in
        subst (λ s. IsIn s given c.process.new.self) (sym admitted) (ok state given are))
        c.process.ensures.answers.advances.ok;
    err = c.process.ensures.answers.advances.err;
    continues = c.process.ensures.answers.advances.continues;
  };
  «open» = c.process.ensures.answers.«open»;
  held = c.process.ensures.answers.held;
  not_gate = c.process.ensures.answers.not_gate;
  arena_full = c.process.ensures.answers.arena_full;
}

pub returns-then-batch-self-clause-shows : goal.returns-then-batch-self-clause-shows
returns-then-batch-self-clause-shows g c = record {
  seen =
      OnOk-always c.repeat.result (λ state given are seen.
      let previous : SFits w64 c.args.batch.previous = search rules in
      let version : SFits w64 c.self.inside.version = search rules in
      let is = ap (λ k. k.version) c.self.view_is in
      let below = less_from_test c.args.batch.previous c.self.inside.version previous version c.if-batch-self.true in
      let admitted = admit-repeat c.args.self.now.set.window c.args.proxy c.args.batch state
      (omega (arith, ints, is, are.version, below)) in
      subst (λ (s : State). g.O.Observer.has_seen c.args.observer.now s.processed) (sym admitted) seen);
  unseen = OnErr-always c.repeat.result (λ processed seen. seen);
}

pub returns-else-batch-self-clause-shows : goal.returns-else-batch-self-clause-shows
returns-else-batch-self-clause-shows g c = record {
  seen =
      on_ok_weaker c.process.result (λ sees state given are seen.
      let admitted = admit-process c.args.self.now.set.window c.args.proxy c.args.batch state (next g c ∙ are.version) in
      subst (λ (s : State). g.O.Observer.has_seen c.process.new.observer s.processed) (sym admitted)
      (sees state given are seen)) c.process.ensures.shows.seen;
  unseen = c.process.ensures.shows.unseen;
}
