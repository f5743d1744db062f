use Rattle.std.proofs.Common.{rules, w64, length, sym, ap, subst, ◌∙◌, arith}
use Rattle.std.proofs.lemmas.Grind.{common_steps}
use Rattle.std.proofs.lemmas.Int.{to_z-of_z}
use Rattle.keyspace.specs.Found.{found, reply_or_never}
use Rattle.chain.specs.Replies.{reply_of}
use Rattle.resolver.specs.Owed.{owed_also}
use Rattle.resolver.specs.Core.{CoreState, IsIn}
use Rattle.resolver.proofs.Answered.{IsIn-answer, length-owed_also}
use Rattle.resolver.proofs.Stops.{OnErr-always}
use Rattle.resolver.proofs.resolver_core.Core.repeat.Goals as goal

pub returns-in_err-reserve-clause-advances : goal.returns-in_err-reserve-clause-advances
returns-in_err-reserve-clause-advances c = record {
  ok = first_of (search rules, grind (arith, common_steps));
  err = OnErr-always c.from_residual.result (c.reserve.ensures.same ∙ ap (λ (k : CoreState). k.owed) c.self.view_is);
  continues = record {
    window = ap (λ (k : CoreState). k.set.window) c.self.view_is;
    limit = ap (λ (k : CoreState). k.set.map.limit) c.self.view_is;
    proxies = ap length c.reserve.ensures.same ∙ ap (λ (k : CoreState). length k.owed) c.self.view_is;
  };
}

pub returns-in_err-answer-clause-advances : goal.returns-in_err-answer-clause-advances
returns-in_err-answer-clause-advances c = record {
  ok = first_of (search rules, grind (arith, common_steps));
  err =
      OnErr-always c.from_residual-in_err-answer.result
      (c.reserve.ensures.same ∙ ap (λ (k : CoreState). k.owed) c.self.view_is);
  continues = record {
    window = ap (λ (k : CoreState). k.set.window) c.self.view_is;
    limit = ap (λ (k : CoreState). k.set.map.limit) c.self.view_is;
    proxies = ap length c.reserve.ensures.same ∙ ap (λ (k : CoreState). length k.owed) c.self.view_is;
  };
}

pub returns-clause-advances : goal.returns-clause-advances
returns-clause-advances c = record {
  ok = λ state given are.
      let was = subst (IsIn state given) (sym c.self.view_is) are in
      let proxies = ap (λ b. length b.owed) c.self.view_is in
      let proxy = c.args.proxy in
      let is = c.in_ok-answer.ensures.found
      ∙ ap (λ v. reply_or_never v (reply_of c.self.inside.replies proxy v))
      (to_z-of_z w64 c.args.version c.ranges.version)
      ∙ ap (reply_or_never c.args.version) (was.kept proxy c.args.version) in
      IsIn-answer state given _ proxy (found state.processed proxy c.args.version) c.push.new.self.answers was
      (omega (arith, proxies))
      (c.push.ensures.answers ∙ ap (λ a. owed_also proxy a c.reserve.new.self.answers) is
      ∙ ap (owed_also proxy (found state.processed proxy c.args.version)) c.in_ok-reserve.ensures.same);
  err = tt;
  continues = record {
    window = ap (λ (k : CoreState). k.set.window) c.self.view_is;
    limit = ap (λ (k : CoreState). k.set.map.limit) c.self.view_is;
    proxies =
        ap length c.push.ensures.answers
        ∙ length-owed_also c.args.proxy c.in_ok-answer.answer c.reserve.new.self.answers
        ∙ ap length c.reserve.ensures.same ∙ ap (λ (k : CoreState). length k.owed) c.self.view_is;
  };
}
