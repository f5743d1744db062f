use Rattle.std.proofs.Common.{rules, ◌≡◌, length, w64, SFits, Err, inl, inr, sym, ap, subst, ◌∙◌, arith}
use Rattle.std.specs.Prelude.{◌<ℤ◌}
use Rattle.std.proofs.lemmas.Int.{ints}
use Rattle.std.proofs.lemmas.Grind.{common_steps}
use Rattle.std.proofs.lemmas.Result.{on_ok_weaker, on_err_weaker}
use Rattle.keyspace.specs.Run.{State, Take, admit, leave_all}
use Rattle.chain.specs.declared.gate.TheConstants.{MAX_HELD}
use Rattle.limits.specs.declared.stop.Stop.TheVariants.{GateFull, ArenaFull}
use Rattle.resolver.specs.Core.{CoreState, Given, IsIn, Continues, MadeBetween, StopsAsTheyLeave}
use Rattle.resolver.specs.Observed.{HasSeenBetween}
use Rattle.resolver.proofs.callers.Later.{Continues-then}
use Rattle.resolver.proofs.Admitting.{admit-ahead, less_from_test, at_most_from_test}
use Rattle.resolver.proofs.Stops.{OnErr-always, same_stop}
use Rattle.resolver.proofs.Growing.{grows_admit, MadeBetween-step, MadeBetween-earlier}
use Rattle.resolver.proofs.Observing.{seen_none, seen_earlier}
use Rattle.resolver.proofs.resolver_core.Core.take.Given.{Over}
use Rattle.resolver.proofs.resolver_core.Core.take.Goals as goal
use Rattle.resolver.proofs.resolver_core.Core.take.Goals.{
  After-release,
  then-batch-self+in_ok-hold,
  else-batch-self+in_ok-answer,
}

pub returns-in_err-hold-clause-advances : goal.returns-in_err-hold-clause-advances
returns-in_err-hold-clause-advances g c = record {
  ok = first_of (search rules, grind (arith, common_steps));
  err =
      OnErr-always c.from_residual.result (λ state given are.
      MadeBetween-step c.args.self.now.set.window (Take c.args.proxy c.args.batch) state given c.args.self.now
      c.hold.new.self are c.in_err-hold.ensures.advances.err);
  continues = c.hold.ensures.advances.continues;
}

pub returns-in_err-answer-clause-advances : goal.returns-in_err-answer-clause-advances
returns-in_err-answer-clause-advances g c = record {
  ok = first_of (search rules, grind (arith, common_steps));
  err =
      OnErr-always c.from_residual-in_err-answer.result (λ state given are.
      MadeBetween-step c.args.self.now.set.window (Take c.args.proxy c.args.batch) state given c.args.self.now
      c.answer.new.self are c.in_err-answer.ensures.answers.advances.err);
  continues = c.answer.ensures.answers.advances.continues;
}

pub returns-in_err-answer-clause-gate_full : goal.returns-in_err-answer-clause-gate_full
returns-in_err-answer-clause-gate_full g c = (
  λ is.
      absurd (c.in_err-answer.ensures.answers.not_gate (ap Err (same_stop c.from_residual-in_err-answer.result
      c.in_err-answer.field-0.0 GateFull c.from_residual-in_err-answer.ensures.1 is))),
  λ full.
      let previous : SFits w64 c.args.batch.previous = search rules in
      let version : SFits w64 c.self.inside.version = search rules in
      let is = ap (λ b. b.version) c.self.view_is in
      let ahead = full.0 in
      let due = at_most_from_test c.self.inside.version c.args.batch.previous version previous
      c.if-batch-self.false in
      absurd (omega (arith, ints, is, ahead, due)),
)

pub returns-in_err-answer-clause-arena_full : goal.returns-in_err-answer-clause-arena_full
returns-in_err-answer-clause-arena_full g c = λ is state given are.
    let full = same_stop c.from_residual-in_err-answer.result c.in_err-answer.field-0.0 ArenaFull
    c.from_residual-in_err-answer.ensures.1 is in
    inl (c.in_err-answer.ensures.answers.arena_full (ap Err full) state given are)

module _ (g : Over) (c : After-release g) where
  -- the batch is held or answered by now
  admitted : (state : State) (given : Given) → IsIn state given c.args.self.now
      → IsIn (admit c.args.self.now.set.window c.args.proxy c.args.batch state) given c.if-batch-self.self
  admitted state given are =
      let next = admit c.args.self.now.set.window c.args.proxy c.args.batch state in
      elim c.if-batch-self.branch [
        | then-batch-self+in_ok-hold w ↦
            subst (IsIn next given) (sym w.self-is) (w.in_ok-hold.ensures.advances.ok state given are)
        | else-batch-self+in_ok-answer w ↦
            subst (IsIn next given) (sym w.self-is) (w.in_ok-answer.ensures.answers.advances.ok state given are)
      ]

  continues : Continues c.args.self.now c.if-batch-self.self
  continues =
      elim c.if-batch-self.branch [
        | then-batch-self+in_ok-hold w ↦
            subst (Continues c.args.self.now) (sym w.self-is) w.hold.ensures.advances.continues
        | else-batch-self+in_ok-answer w ↦
            subst (Continues c.args.self.now) (sym w.self-is) w.answer.ensures.answers.advances.continues
      ]

  -- and the observer has seen what is processed by then
  seen_admitted : (state : State) (given : Given) → IsIn state given c.args.self.now
      → g.O.Observer.has_seen c.args.observer.now state.processed
      → g.O.Observer.has_seen c.if-batch-self.observer
      (admit c.args.self.now.set.window c.args.proxy c.args.batch state).processed
  seen_admitted state given are seen =
      let next = (admit c.args.self.now.set.window c.args.proxy c.args.batch state).processed in
      elim c.if-batch-self.branch [
        | then-batch-self+in_ok-hold w ↦
            let previous : SFits w64 c.args.batch.previous = search rules in
            let version : SFits w64 c.self.inside.version = search rules in
            let is = ap (λ b. b.version) c.self.view_is in
            let ahead = less_from_test c.self.inside.version c.args.batch.previous version previous
            w.if-batch-self.true in
            let held = admit-ahead c.args.self.now.set.window c.args.proxy c.args.batch state
            (omega (arith, ints, is, are.version, ahead)) in
            subst (λ o. g.O.Observer.has_seen o next) (sym w.observer-is)
            (subst (λ (s : State). g.O.Observer.has_seen c.args.observer.now s.processed) (sym held) seen)
        | else-batch-self+in_ok-answer w ↦
            subst (λ o. g.O.Observer.has_seen o next) (sym w.observer-is)
            (w.in_ok-answer.ensures.shows.seen state given are seen)
      ]

-- the core takes more, where the batch is held or answered
pub release-requires : goal.release-requires
release-requires g c = record {
  «open» = elim c.if-batch-self.branch [
    | then-batch-self+in_ok-hold w ↦
        ap (λ (k : CoreState). k.stop) w.self-is ∙ w.hold.ensures.stop ∙ c.requires.«open»
    | else-batch-self+in_ok-answer w ↦
        ap (λ (k : CoreState). k.stop) w.self-is ∙ w.in_ok-answer.ensures.answers.«open»
  ];
}

pub returns-in_err-hold-clause-shows : goal.returns-in_err-hold-clause-shows
returns-in_err-hold-clause-shows g c = record {
  seen = first_of (search rules, grind (arith, common_steps));
  seen_between =
      OnErr-always c.from_residual.result (λ state given are seen.
      seen_none (g.O.Observer.has_seen c.args.observer.now) c.args.self.now.set.window (Take c.args.proxy c.args.batch)
      state seen);
}

pub returns-in_err-answer-clause-shows : goal.returns-in_err-answer-clause-shows
returns-in_err-answer-clause-shows g c = record {
  seen = first_of (search rules, grind (arith, common_steps));
  seen_between =
      OnErr-always c.from_residual-in_err-answer.result (λ state given are seen.
      seen_none (g.O.Observer.has_seen c.answer.new.observer) c.args.self.now.set.window (Take c.args.proxy c.args.batch)
      state (c.in_err-answer.ensures.shows.unseen state.processed seen));
}

pub returns-clause-advances : goal.returns-clause-advances
returns-clause-advances g c =
    let d = (goal.at.returns-clause-advances g c).After-release in
    record {
      ok =
          on_ok_weaker c.release.result (λ ok state given are.
          let next = admit c.args.self.now.set.window c.args.proxy c.args.batch state in
          subst (λ w. IsIn (leave_all w next) given c.release.new.self) (continues g d).window
          (ok next given (admitted g d state given are))) c.release.ensures.advances.ok;
      err =
          on_err_weaker c.release.result (λ err state given are.
          let window = c.args.self.now.set.window in
          let next = admit window c.args.proxy c.args.batch state in
          MadeBetween-earlier state next (leave_all window next) given c.release.new.self
          (grows_admit window c.args.proxy c.args.batch state)
          (subst (λ w. MadeBetween next (leave_all w next) given c.release.new.self) (continues g d).window
          (err next given (admitted g d state given are)))) c.release.ensures.advances.err;
      continues =
          Continues-then c.args.self.now c.if-batch-self.self c.release.new.self (continues g d) c.release.ensures.advances.continues;
    }

pub returns-clause-shows : goal.returns-clause-shows
returns-clause-shows g c =
    let d = (goal.at.returns-clause-shows g c).After-release in
    record {
      seen =
          on_ok_weaker c.release.result (λ sees state given are seen.
          let next = admit c.args.self.now.set.window c.args.proxy c.args.batch state in
          subst (λ w. g.O.Observer.has_seen c.release.new.observer (leave_all w next).processed) (continues g d).window
          (sees next given (admitted g d state given are) (seen_admitted g d state given are seen))) c.release.ensures.shows.seen;
      seen_between =
          on_err_weaker c.release.result (λ sees state given are seen.
          let window = c.args.self.now.set.window in
          let next = admit window c.args.proxy c.args.batch state in
          let has_seen = g.O.Observer.has_seen c.release.new.observer in
          seen_earlier has_seen state next (leave_all window next) (grows_admit window c.args.proxy c.args.batch state)
          (subst (λ w. HasSeenBetween has_seen next.processed (leave_all w next).processed) (continues g d).window
          (sees next given (admitted g d state given are) (seen_admitted g d state given are seen))))
          c.release.ensures.shows.seen_between;
    }

pub returns-clause-arena_full : goal.returns-clause-arena_full
returns-clause-arena_full g c = λ is state given are.
    let d = (goal.at.returns-clause-arena_full g c).After-release in
    let set = c.args.self.now.set in
    let limit = c.if-batch-self.self.set.map.limit in
    let next = admit set.window c.args.proxy c.args.batch state in
    let new = c.release.new.self in
    inr (subst (λ n. StopsAsTheyLeave n set.window next given new) (continues g d).limit
    (subst (λ w. StopsAsTheyLeave limit w next given new) (continues g d).window
    (c.release.ensures.arena_full is next given (admitted g d state given are))))

-- the batch isn't ahead, or the gate had room for it
not_full : (g : Over) (c : After-release g) → c.args.self.now.version <ℤ c.args.batch.previous
    → length c.args.self.now.held ≡ MAX_HELD → ⊥
not_full g c ahead full =
    let previous : SFits w64 c.args.batch.previous = search rules in
    let version : SFits w64 c.self.inside.version = search rules in
    let is = ap (λ b. b.version) c.self.view_is in
    elim c.if-batch-self.branch [
      | then-batch-self+in_ok-hold w ↦ let refused = w.in_ok-hold.ensures.full.1 full in cc
      | else-batch-self+in_ok-answer w ↦
          let due = at_most_from_test c.self.inside.version c.args.batch.previous version previous
          w.if-batch-self.false in
          omega (arith, ints, is, ahead, due)
    ]

pub returns-clause-gate_full : goal.returns-clause-gate_full
returns-clause-gate_full g c =
    let d = (goal.at.returns-clause-gate_full g c).After-release in
    (λ is. absurd (c.release.ensures.not_gate is), λ full. absurd (not_full g d full.0 full.1))
