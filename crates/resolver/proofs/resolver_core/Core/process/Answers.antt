use Rattle.std.proofs.Common.{
  rules,
  ◌≡◌,
  ℕ,
  ◌<◌,
  ◌++◌,
  List,
  [],
  ◌∷◌,
  length,
  Some,
  None,
  w64,
  SFits,
  refl,
  sym,
  ap,
  subst,
  ◌∙◌,
  arith,
}
use Rattle.std.specs.Prelude.{ℤ, ◌<ℤ◌, ◌≤ℤ◌}
use Rattle.std.proofs.lemmas.Int.{to_z-of_z, ints}
use Rattle.std.proofs.lemmas.Grind.{common_steps}
use Rattle.std.specs.List.{All}
use Rattle.keyspace.specs.Leaving.{Held}
use Rattle.limits.specs.declared.stop.Stop.TheVariants.{GateFull, ArenaFull}
use Rattle.keyspace.specs.declared.answer.Answer.TheVariants as reported
use Rattle.keyspace.specs.declared.reply.Reply.{Reply}
use Rattle.keyspace.specs.Writes.{Write, writes, writes_of}
use Rattle.keyspace.specs.Judged.{edge}
use Rattle.keyspace.specs.Judge.{judge}
use Rattle.keyspace.specs.Run.{State, process}
use Rattle.conflict.specs.ConflictSet.{Remembers, IsOverLimit}
use Rattle.chain.specs.Replies.{reply_of}
use Rattle.resolver.specs.Owed.{owed_also}
use Rattle.resolver.specs.Core.{CoreState, Given, core_of, IsIn, kept_also}
use Rattle.resolver.proofs.Answered.{length-owed_also}
use Rattle.resolver.proofs.Growing.{made_then}
use Rattle.resolver.proofs.Kept.{kept_also_past}
use Rattle.resolver.proofs.Stops.{set_is_full, set_not_gate, same_stop, OnErr-always}
use Rattle.resolver.proofs.Processing.{absent_later, IsCore-later, IsIn-process, over_processed}
use Rattle.resolver.proofs.resolver_core.Core.process.Given.{Over}
use Rattle.resolver.proofs.resolver_core.Core.process.Goals as goal
use Rattle.resolver.proofs.resolver_core.Core.process.Goals.{In-Ok}

pub returns-in_err-reserve-clause-answers : goal.returns-in_err-reserve-clause-answers
returns-in_err-reserve-clause-answers g c = record {
  advances = record {
    ok = first_of (search rules, grind (arith, common_steps));
    err = OnErr-always c.from_residual.result (c.reserve.ensures.same ∙ ap (λ (k : CoreState). k.owed) c.self.view_is);
    continues = record {
      window = ap (λ (k : CoreState). k.set.window) c.self.view_is;
      limit = ap (λ (k : CoreState). k.set.map.limit) c.self.view_is;
      proxies = ap length c.reserve.ensures.same ∙ ap (λ (k : CoreState). length k.owed) c.self.view_is;
    };
  };
  «open» = first_of (search rules, grind (arith, common_steps));
  held = ap (λ (k : CoreState). k.held) c.self.view_is;
  not_gate = first_of (search rules, grind (arith, common_steps));
  arena_full = first_of (search rules, grind (arith, common_steps));
}

pub returns-in_err-reserve-clause-shows : goal.returns-in_err-reserve-clause-shows
returns-in_err-reserve-clause-shows g c = record {
  seen = first_of (search rules, grind (arith, common_steps));
  unseen = OnErr-always c.from_residual.result (λ processed seen. seen);
}

-- the core is in order where its conflict set has stopped
pub invariant_of-self-in-Err : goal.invariant_of-self-in-Err
invariant_of-self-in-Err g c =
    let running = c.self.invariant.takes_more (ap (λ (k : CoreState). k.stop) c.self.view_is ∙ c.requires.«open») in
    let known = c.self.invariant.remembers in
    let map = c.in-Err.ensures.stops.map running in
    record {
      takes_more = λ none. absurd cc;
      resolved = λ _.
          subst (λ v. v ≤ℤ c.self.inside.version) (sym c.in-Err.ensures.stops.resolved)
          (c.self.invariant.resolved running);
      remembers = (
        known.0,
        record { covers = map.covers known.0 known.1.covers; rooted = map.rooted known.0 known.1.rooted },
      );
      known =
          subst (λ n. All (λ (h : Held). h.0 < n) c.self.inside.gate) (sym (ap length c.in_ok-reserve.ensures.same))
          c.self.invariant.known;
      past = c.self.invariant.past;
    }

pub returns-in-Err-clause-answers : goal.returns-in-Err-clause-answers
returns-in-Err-clause-answers g c = record {
  advances = record {
    ok = tt;
    err = c.in_ok-reserve.ensures.same ∙ ap (λ (k : CoreState). k.owed) c.self.view_is;
    continues =
        let running = c.self.invariant.takes_more (ap (λ (k : CoreState). k.stop) c.self.view_is ∙ c.requires.«open») in
        record {
          window = c.in-Err.ensures.stops.window ∙ ap (λ (k : CoreState). k.set.window) c.self.view_is;
          limit = (c.in-Err.ensures.stops.map running).limit ∙ ap (λ (k : CoreState). k.set.map.limit) c.self.view_is;
          proxies = ap length c.in_ok-reserve.ensures.same ∙ ap (λ (k : CoreState). length k.owed) c.self.view_is;
        };
  };
  «open» = tt;
  held = ap (λ (k : CoreState). k.held) c.self.view_is;
  not_gate = λ is. set_not_gate c.in-Err.stop (cc (is, c.from-stop.ensures));
  arena_full = λ is state given are.
      let full = set_is_full c.in-Err.stop (cc (is, c.from-stop.ensures)) in
      let was = subst (IsIn state given) (sym c.self.view_is) are in
      let set = c.self.inside.set in
      let batch = c.args.batch in
      let running = c.self.invariant.takes_more (ap (λ k. k.stop) c.self.view_is ∙ c.requires.«open») in
      let reply = judge set.window (writes state.processed) batch in
      let over = ((c.in-Err.ensures.stops.map running).full full (writes state.processed) reply was.remembers.covers
      was.remembers.rooted (c.one_reply.ensures.right set.window (writes state.processed) batch)).over in
      let new = core_of c.resolve.new.self c.self.inside.version c.self.inside.gate c.self.inside.replies
      c.reserve.new.self (Some c.from-stop.result) in
      let same = c.in_ok-reserve.ensures.same ∙ ap (λ k. k.owed) c.self.view_is in
      record {
        next = c.requires.next ∙ are.version;
        made = made_then state given c.args.self.now new are same;
        exceeds =
            subst (λ (k : CoreState). IsOverLimit k.set.map.limit (edge k.set.window batch)
            (writes (process k.set.window c.args.proxy batch state).processed)) c.self.view_is
            (over_processed set.map.limit set.window state c.args.proxy batch over);
      };
}

pub returns-in-Err-clause-shows : goal.returns-in-Err-clause-shows
returns-in-Err-clause-shows g c = record { seen = tt; unseen = λ processed seen. seen }

module _ (g : Over) (c : In-Ok g) where
  -- the core before
  abbrev before : CoreState
  before = core_of c.self.inside.set c.self.inside.version c.self.inside.gate c.self.inside.replies
      c.self.inside.owed c.self.inside.stop

  -- the reply has the batch's version, which is above that of the core
  same : c.in-Ok.reply.version ≡ c.args.batch.version
  same =
      let known = c.self.invariant.remembers in
      (c.in-Ok.ensures.resolves.map.judged known.0 known.1.covers).version

  later : c.self.inside.version <ℤ c.args.batch.version
  later =
      let is = ap (λ b. b.version) c.self.view_is in
      omega (arith, ints, is, c.requires.next, c.args.batch.rises)

  absent : reply_of c.self.inside.replies c.args.proxy c.args.batch.version ≡ None
  absent = absent_later before c.args.proxy c.args.batch.version c.self.invariant later

  fits : SFits w64 c.args.batch.version
  fits = search rules

  received_fits : SFits w64 c.args.batch.received
  received_fits = search rules

  -- the set remembers the batch's writes too
  remembers : (ws : List Write) → Remembers c.self.inside.set ws
      → Remembers c.resolve.new.self (ws ++ writes_of c.args.batch c.in-Ok.reply)
  remembers ws old = record {
    covers = c.in-Ok.ensures.resolves.map.covers ws old.covers;
    rooted = c.in-Ok.ensures.resolves.map.rooted ws old.rooted;
  }

  remembers_some : (ws : List Write) × Remembers c.resolve.new.self ws
  remembers_some =
      let old = c.self.invariant.remembers in
      (old.0 ++ writes_of c.args.batch c.in-Ok.reply, remembers old.0 old.1)

  -- the set has the same window and limit
  window_same : c.resolve.new.self.window ≡ c.args.self.now.set.window
  window_same = c.in-Ok.ensures.resolves.window ∙ ap (λ (k : CoreState). k.set.window) c.self.view_is

  limit_same : c.resolve.new.self.map.limit ≡ c.args.self.now.set.map.limit
  limit_same = c.in-Ok.ensures.resolves.map.limit ∙ ap (λ (k : CoreState). k.set.map.limit) c.self.view_is

  -- no reply is kept of a version above the batch's, once its own is kept
  past : (now : ℤ) → now ≡ c.args.batch.version → (received : ℤ) (proxy : ℕ) (v : ℤ) (reply : Reply)
      → kept_also c.args.proxy received c.in-Ok.reply (reply_of c.self.inside.replies) proxy v ≡ Some reply → v ≤ℤ now
  past now is received proxy v reply kept =
      let later = later in
      let same = same in
      let known = kept_also_past c.args.proxy received c.in-Ok.reply (reply_of c.self.inside.replies) proxy v
      (λ old was. let past = c.self.invariant.past proxy v old was in omega (arith, ints, past, later, same)) reply kept in
      omega (arith, ints, known, same, is)

  -- the reply is that of the reference resolver
  judged : (state : State) (given : Given) → IsIn state given before
      → c.in-Ok.reply ≡ judge c.args.self.now.set.window (writes state.processed) c.args.batch
  judged state given was =
      c.one_reply.ensures.only c.self.inside.set.window (writes state.processed) c.args.batch c.in-Ok.reply
      (c.in-Ok.ensures.resolves.map.judged (writes state.processed) was.remembers.covers)
      ∙ ap (λ (k : CoreState). judge k.set.window (writes state.processed) c.args.batch) c.self.view_is

pub keep-requires : goal.keep-requires
keep-requires g c =
    let d = (goal.at.keep-requires g c).In-Ok in
    record { absent = ap (reply_of c.self.inside.replies c.args.proxy) (same g d) ∙ absent g d }

pub invariant_of-self-in_err-keep : goal.invariant_of-self-in_err-keep
invariant_of-self-in_err-keep g c =
    let d = (goal.at.invariant_of-self-in_err-keep g c).In-Ok in
    let version = to_z-of_z w64 c.args.batch.version (fits g d) in
    let later = later g d in
    IsCore-later (before g d) _ c.self.invariant c.in-Ok.ensures.resolves.continues.1 (c.in-Ok.ensures.resolves.resolved ∙ sym version)
    (remembers_some g d) refl (ap length c.in_ok-reserve.ensures.same)
    (λ proxy v reply is.
    let past = c.self.invariant.past proxy v reply (c.in_err-keep.ensures.err proxy v reply is) in
    omega (arith, ints, past, later, version))

pub invariant_of-self-in_err-see : goal.invariant_of-self-in_err-see
invariant_of-self-in_err-see g c =
    let d = (goal.at.invariant_of-self-in_err-see g c).In-Ok in
    let version = to_z-of_z w64 c.args.batch.version (fits g d) in
    IsCore-later (before g d) _ c.self.invariant c.in-Ok.ensures.resolves.continues.1 (c.in-Ok.ensures.resolves.resolved ∙ sym version)
    (remembers_some g d) refl (ap length c.in_ok-reserve.ensures.same)
    (λ proxy v reply is. past g d _ version _ proxy v reply (sym (c.in_ok-keep.ensures.ok proxy v) ∙ is))

pub invariant_of-self-2 : goal.invariant_of-self-2
invariant_of-self-2 g c =
    let d = (goal.at.invariant_of-self-2 g c).In-Ok in
    let version = to_z-of_z w64 c.args.batch.version (fits g d) in
    IsCore-later (before g d) _ c.self.invariant c.in-Ok.ensures.resolves.continues.1 (c.in-Ok.ensures.resolves.resolved ∙ sym version)
    (remembers_some g d) refl
    (ap length c.push.ensures.answers
    ∙ length-owed_also c.args.proxy (reported.Reply c.in-Ok.reply) c.reserve.new.self.answers
    ∙ ap length c.in_ok-reserve.ensures.same)
    (λ proxy v reply is. past g d _ version _ proxy v reply (sym (c.in_ok-keep.ensures.ok proxy v) ∙ is))

pub returns-clause-answers : goal.returns-clause-answers
returns-clause-answers g c = record {
  advances = record {
    ok = λ state given are.
        let d = (goal.at.returns-clause-answers g c).In-Ok in
        let was = subst (IsIn state given) (sym c.self.view_is) are in
        let proxies = ap (λ b. length b.owed) c.self.view_is in
        let batch = c.args.batch in
        let reply = c.in-Ok.reply in
        IsIn-process state given (before g d) _ c.args.proxy batch c.args.self.now.set.window reply was
        (omega (arith, proxies)) (absent g d)
        (judged g d state given was)
        (remembers g d (writes state.processed) was.remembers)
        (record {
          version = to_z-of_z w64 batch.version (fits g d);
          held = refl;
          kept = λ p v.
              c.in_ok-keep.ensures.ok p v
              ∙ ap (λ received. kept_also c.args.proxy received reply (reply_of c.self.inside.replies) p v)
              (to_z-of_z w64 batch.received (received_fits g d));
          owed =
              c.push.ensures.answers
              ∙ ap (owed_also c.args.proxy (reported.Reply reply)) c.in_ok-reserve.ensures.same;
        });
    err = tt;
    continues =
        let d = (goal.at.returns-clause-answers g c).In-Ok in
        record {
          window = window_same g d;
          limit = limit_same g d;
          proxies =
              ap length c.push.ensures.answers
              ∙ length-owed_also c.args.proxy (reported.Reply c.in-Ok.reply) c.reserve.new.self.answers
              ∙ ap length c.in_ok-reserve.ensures.same ∙ ap (λ (k : CoreState). length k.owed) c.self.view_is;
        };
  };
  «open» = ap (λ (k : CoreState). k.stop) c.self.view_is ∙ c.requires.«open»;
  held = ap (λ (k : CoreState). k.held) c.self.view_is;
  not_gate = λ is. cc;
  arena_full = λ is. absurd cc;
}

pub returns-in_err-keep-clause-answers : goal.returns-in_err-keep-clause-answers
returns-in_err-keep-clause-answers g c =
    let d = (goal.at.returns-in_err-keep-clause-answers g c).In-Ok in
    record {
      advances = record {
        ok = first_of (search rules, grind (arith, common_steps));
        err =
            OnErr-always c.from_residual-in_err-keep.result
            (c.in_ok-reserve.ensures.same ∙ ap (λ (k : CoreState). k.owed) c.self.view_is);
        continues = record {
          window = window_same g d;
          limit = limit_same g d;
          proxies = ap length c.in_ok-reserve.ensures.same ∙ ap (λ (k : CoreState). length k.owed) c.self.view_is;
        };
      };
      «open» = first_of (search rules, grind (arith, common_steps));
      held = ap (λ (k : CoreState). k.held) c.self.view_is;
      not_gate = λ is.
          let met = same_stop c.from_residual-in_err-keep.result c.in_err-keep.field-0.0 GateFull
          c.from_residual-in_err-keep.ensures.1 is in
          let memory = c.in_err-keep.ensures.memory in
          cc (met, memory);
      arena_full = λ is state given are.
          let met = same_stop c.from_residual-in_err-keep.result c.in_err-keep.field-0.0 ArenaFull
          c.from_residual-in_err-keep.ensures.1 is in
          let memory = c.in_err-keep.ensures.memory in
          absurd (cc (met, memory));
    }

pub returns-in_err-keep-clause-shows : goal.returns-in_err-keep-clause-shows
returns-in_err-keep-clause-shows g c = record {
  seen = first_of (search rules, grind (arith, common_steps));
  unseen = OnErr-always c.from_residual-in_err-keep.result (λ processed seen. seen);
}

pub returns-in_err-see-clause-answers : goal.returns-in_err-see-clause-answers
returns-in_err-see-clause-answers g c =
    let d = (goal.at.returns-in_err-see-clause-answers g c).In-Ok in
    record {
      advances = record {
        ok = first_of (search rules, grind (arith, common_steps));
        err =
            OnErr-always c.from_residual-in_err-see.result
            (c.in_ok-reserve.ensures.same ∙ ap (λ (k : CoreState). k.owed) c.self.view_is);
        continues = record {
          window = window_same g d;
          limit = limit_same g d;
          proxies = ap length c.in_ok-reserve.ensures.same ∙ ap (λ (k : CoreState). length k.owed) c.self.view_is;
        };
      };
      «open» = first_of (search rules, grind (arith, common_steps));
      held = ap (λ (k : CoreState). k.held) c.self.view_is;
      not_gate = first_of (search rules, grind (arith, common_steps));
      arena_full = first_of (search rules, grind (arith, common_steps));
    }

pub returns-in_err-see-clause-shows : goal.returns-in_err-see-clause-shows
returns-in_err-see-clause-shows g c = record {
  seen = first_of (search rules, grind (arith, common_steps));
  unseen = OnErr-always c.from_residual-in_err-see.result c.in_err-see.ensures.unseen;
}

pub see-requires : goal.see-requires
see-requires g c =
    let known = c.self.invariant.remembers in
    record { entries = (c.in-Ok.ensures.resolves.map.judged known.0 known.1.covers).count }

pub returns-clause-shows : goal.returns-clause-shows
returns-clause-shows g c = record {
  seen = λ state given are seen.
      let d = (goal.at.returns-clause-shows g c).In-Ok in
      let was = subst (IsIn state given) (sym c.self.view_is) are in
      subst (λ (reply : Reply). g.O.Observer.has_seen c.see.new.self
      (state.processed ++ record { proxy = c.args.proxy; batch = c.args.batch; reply = reply } ∷ []))
      (judged g d state given was) (c.in_ok-see.ensures.seen state.processed seen);
  unseen = tt;
}
