use Rattle.std.proofs.Common.{rules, ◌≡◌, length, w64, SFits, None, Err, sym, ap, subst, ◌∙◌, arith}
use Rattle.std.proofs.lemmas.Int.{to_z-of_z, ints}
use Rattle.std.proofs.lemmas.Grind.{common_steps}
use Rattle.keyspace.specs.Leaving.{Held, next_due}
use Rattle.keyspace.specs.Laws.{Leaves}
use Rattle.keyspace.specs.Run.{State, admit, leave, leave_all}
use Rattle.limits.specs.declared.stop.Stop.TheVariants.{GateFull, ArenaFull}
use Rattle.resolver.specs.Core.{CoreState, Given, core_of, IsIn, Continues, StopsIn}
use Rattle.resolver.proofs.callers.Later.{Continues-then}
use Rattle.resolver.proofs.Growing.{Grows, grows_leave, grows_leave_all, MadeBetween-grown}
use Rattle.resolver.proofs.Stops.{OnErr-always, same_stop}
use Rattle.resolver.proofs.Releasing.{LeavesNext, leaver_known, IsCore-left, IsIn-left, Reaches, IsIn-reached, seen_reached, seen_refused, Reaches-left, StopsAsTheyLeave-left}
use Rattle.resolver.proofs.resolver_core.Core.release.Given.{Over}
use Rattle.resolver.proofs.resolver_core.Core.release.Goals as goal
use Rattle.resolver.proofs.resolver_core.Core.release.Goals.{In-Some, In_default}

module _ (g : Over) (c : In-Some g) where
  -- the core before
  abbrev before : CoreState
  before = core_of c.self.inside.set c.self.inside.version c.self.inside.gate c.self.inside.replies
      c.self.inside.owed c.self.inside.stop

  -- the batch that leaves
  abbrev leaver : Held
  leaver = (c.in-Some.proxy, c.in-Some.batch)

  leaves_next : LeavesNext before leaver c.next_for.new.self
  leaves_next =
      let fits : SFits w64 c.self.inside.version = search rules in
      record {
        next =
            ap (λ v. next_due v c.self.inside.gate) (sym (to_z-of_z w64 c.self.inside.version fits))
            ∙ c.in-Some.ensures.next;
        due = omega (arith, ints, c.in-Some.ensures.due);
        fewer = c.in-Some.ensures.fewer;
      }

  leaves : Leaves c.self.inside.version c.self.inside.gate leaver c.next_for.new.self
  leaves =
      c.leaving.ensures.next_due.some c.self.inside.version c.self.inside.gate leaver c.next_for.new.self
      leaves_next.next

  -- the core without it
  abbrev without : CoreState
  without = record before { held = c.next_for.new.self }

  continues : Continues c.args.self.now without
  continues =
      let now = subst (Continues c.args.self.now) (sym c.self.view_is) c.loop-proxy.invariant.continues in
      record { window = now.window; limit = now.limit; proxies = now.proxies }

  module _ (state : State) (given : Given) (are : IsIn state given c.args.self.now) where
    reached : Reaches c.args.self.now.set.window state given before (g.O.Observer.has_seen c.args.observer.now)
        (g.O.Observer.has_seen c.loop-proxy.observer)
    reached =
        subst (λ (core : CoreState). Reaches c.args.self.now.set.window state given core
        (g.O.Observer.has_seen c.args.observer.now) (g.O.Observer.has_seen c.loop-proxy.observer)) (sym c.self.view_is)
        (c.loop-proxy.invariant.reaches state given are)

    -- the state that is reached
    abbrev now : State
    now = leave reached.turns c.args.self.now.set.window state

    -- the state without it
    abbrev others : State
    others = record now { held = c.next_for.new.self }

    are_without : IsIn others given without
    are_without = IsIn-left now given before c.next_for.new.self reached.are

pub invariant_of-self : goal.invariant_of-self
invariant_of-self g c =
    let d = (goal.at.invariant_of-self g c).In-Some in
    IsCore-left (before g d) (leaver g d) c.next_for.new.self c.self.inside.version (leaves g d) c.self.invariant

pub answer-requires-clause-known : goal.answer-requires-clause-known
answer-requires-clause-known g c =
    let d = (goal.at.answer-requires-clause-known g c).In-Some in
    leaver_known (before g d) (leaver g d) c.next_for.new.self c.self.inside.version (leaves g d) c.self.invariant

pub returns-in_err-answer-clause-advances : goal.returns-in_err-answer-clause-advances
returns-in_err-answer-clause-advances g c = record {
  ok = first_of (search rules, grind (arith, common_steps));
  err =
      OnErr-always c.from_residual.result (λ state given are.
      let d = (goal.at.returns-in_err-answer-clause-advances g c).In-Some in
      let window = c.args.self.now.set.window in
      let r = reached g d state given are in
      let s = now g d state given are in
      MadeBetween-grown state s (leave_all window state) given (before g d) c.answer.new.self r.are
      c.in_err-answer.ensures.answers.advances.err (grows_leave r.turns window state)
      (subst (Grows s) r.same (grows_leave_all window s)));
  continues =
      let d = (goal.at.returns-in_err-answer-clause-advances g c).In-Some in
      Continues-then c.args.self.now (without g d) c.answer.new.self (continues g d)
      c.answer.ensures.answers.advances.continues;
}

pub returns-in_err-answer-clause-not_gate : goal.returns-in_err-answer-clause-not_gate
returns-in_err-answer-clause-not_gate g c = λ is.
    c.in_err-answer.ensures.answers.not_gate
    (ap Err (same_stop c.from_residual.result c.in_err-answer.field-0.0 GateFull c.from_residual.ensures.1 is))

pub returns-in_err-answer-clause-arena_full : goal.returns-in_err-answer-clause-arena_full
returns-in_err-answer-clause-arena_full g c = λ is state given are.
    let d = (goal.at.returns-in_err-answer-clause-arena_full g c).In-Some in
    let stop = c.in_err-answer.field-0.0 in
    let full = same_stop c.from_residual.result stop ArenaFull c.from_residual.ensures.1 is in
    let set = c.args.self.now.set in
    let s = others g d state given are in
    let new = c.answer.new.self in
    let stops = c.in_err-answer.ensures.answers.arena_full (ap Err full) s given (are_without g d state given are) in
    StopsAsTheyLeave-left set.window state given (before g d) (g.O.Observer.has_seen c.args.observer.now)
    (g.O.Observer.has_seen c.loop-proxy.observer) (reached g d state given are) (leaver g d)
    c.next_for.new.self (leaves_next g d) set.map.limit new
    (subst (λ w. StopsIn set.map.limit w s c.in-Some.proxy c.in-Some.batch given new) (continues g d).window
    (subst (λ n. StopsIn n c.self.inside.set.window s c.in-Some.proxy c.in-Some.batch given new)
    (continues g d).limit stops))

pub loop-proxy-smaller : goal.loop-proxy-smaller
loop-proxy-smaller g c =
    let held = ap length c.answer.ensures.answers.held in
    let is = ap (λ (core : CoreState). length core.held) c.self.view_is in
    let fewer = c.in-Some.ensures.fewer in
    omega (arith, held, is, fewer)

pub loop-proxy-preserved : goal.loop-proxy-preserved
loop-proxy-preserved g c =
    let d = (goal.at.loop-proxy-preserved g c).In-Some in
    let new = c.answer.new.self in
    record {
      reaches = λ state given are.
          let s = others g d state given are in
          let at = are_without g d state given are in
          Reaches-left c.args.self.now.set.window state given (before g d) (g.O.Observer.has_seen c.args.observer.now)
          (g.O.Observer.has_seen c.loop-proxy.observer) (reached g d state given are) (leaver g d) c.next_for.new.self
          (leaves_next g d) new (g.O.Observer.has_seen c.answer.new.observer)
          (subst (λ w. IsIn (admit w c.in-Some.proxy c.in-Some.batch s) given new) (continues g d).window
          (c.in_ok-answer.ensures.answers.advances.ok s given at))
          (subst (λ w. g.O.Observer.has_seen c.loop-proxy.observer s.processed
          → g.O.Observer.has_seen c.answer.new.observer (admit w c.in-Some.proxy c.in-Some.batch s).processed)
          (continues g d).window (c.in_ok-answer.ensures.shows.seen s given at));
      continues = Continues-then c.args.self.now (without g d) new (continues g d) c.answer.ensures.answers.advances.continues;
      still = c.in_ok-answer.ensures.answers.«open»;
      setting = c.answer.ensures.setting ∙ c.loop-proxy.invariant.setting;
    }

pub returns-in_err-answer-clause-shows : goal.returns-in_err-answer-clause-shows
returns-in_err-answer-clause-shows g c = record {
  seen = first_of (search rules, grind (arith, common_steps));
  seen_between =
      OnErr-always c.from_residual.result (λ state given are.
      let d = (goal.at.returns-in_err-answer-clause-shows g c).In-Some in
      seen_refused c.args.self.now.set.window state given (before g d) (g.O.Observer.has_seen c.args.observer.now)
      (g.O.Observer.has_seen c.loop-proxy.observer) (reached g d state given are)
      (g.O.Observer.has_seen c.answer.new.observer) (c.in_err-answer.ensures.shows.unseen (now g d state given are).processed));
}

-- none is due at the end
module _ (g : Over) (c : In_default g) where
  abbrev last : CoreState
  last = core_of c.self.inside.set c.self.inside.version c.self.inside.gate c.self.inside.replies c.self.inside.owed
      c.self.inside.stop

  none : next_due last.version last.held ≡ None
  none =
      let fits : SFits w64 c.self.inside.version = search rules in
      ap (λ v. next_due v c.self.inside.gate) (sym (to_z-of_z w64 c.self.inside.version fits)) ∙ c.in_default.ensures.next

  reached_last : (state : State) (given : Given) → IsIn state given c.args.self.now
      → Reaches c.args.self.now.set.window state given last (g.O.Observer.has_seen c.args.observer.now)
      (g.O.Observer.has_seen c.loop-proxy.observer)
  reached_last state given are =
      subst (λ (core : CoreState). Reaches c.args.self.now.set.window state given core
      (g.O.Observer.has_seen c.args.observer.now) (g.O.Observer.has_seen c.loop-proxy.observer)) (sym c.self.view_is)
      (c.loop-proxy.invariant.reaches state given are)

pub returns-clause-advances : goal.returns-clause-advances
returns-clause-advances g c = record {
  ok = λ state given are.
      let d = (goal.at.returns-clause-advances g c).In_default in
      let window = c.args.self.now.set.window in
      subst (λ hs. IsIn (leave_all window state) given (record (last g d) { held = hs })) (sym c.in_default.ensures.unchanged)
      (IsIn-reached window state given (last g d) (g.O.Observer.has_seen c.args.observer.now)
      (g.O.Observer.has_seen c.loop-proxy.observer) (reached_last g d state given are) (none g d));
  err = tt;
  continues =
      let now = subst (Continues c.args.self.now) (sym c.self.view_is) c.loop-proxy.invariant.continues in
      record { window = now.window; limit = now.limit; proxies = now.proxies };
}

pub returns-clause-shows : goal.returns-clause-shows
returns-clause-shows g c = record {
  seen = λ state given are.
      let d = (goal.at.returns-clause-shows g c).In_default in
      seen_reached c.args.self.now.set.window state given (last g d) (g.O.Observer.has_seen c.args.observer.now)
      (g.O.Observer.has_seen c.loop-proxy.observer) (reached_last g d state given are) (none g d);
  seen_between = tt;
}
