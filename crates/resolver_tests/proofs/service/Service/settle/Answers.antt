use Rattle.std.proofs.Common.{List, sym, subst}
use Rattle.resolver.specs.declared.client.Client.{Client}
use Rattle.resolver.specs.Lanes.{Lanes, Each, LanesContinue, AreSameLists}
use Rattle.resolver.specs.Resolver.{AreClients, SameClients}
use Rattle.resolver.proofs.callers.Lists.{written_back}
use Rattle.resolver.proofs.callers.Later.{ClientsContinue, AreClients-later}
use Rattle.resolver_tests.proofs.service.Service.settle.Goals as goal

clients_settle : (old new : List Client) → SameClients old new → ClientsContinue old new
clients_settle old new same = record {
  count = same.count;
  each = λ proxy c d c_at d_at.
      let both = same.each proxy c d c_at d_at in
      record { requests = both.requests; replies = both.replies };
}

lanes_settle : (lanes later : List Lanes) → Each (λ _ l m. LanesContinue l m × AreSameLists l m) lanes later
    → Each (λ _ l m. LanesContinue l m) lanes later
lanes_settle lanes later continue_with = record {
  count = continue_with.count;
  each = λ proxy l m l_at m_at. (continue_with.each proxy l m l_at m_at).0;
}

pub invariant_of-self : goal.invariant_of-self
invariant_of-self c =
    let s = c.args.self.now in
    let old = s.clients.items in
    let new = c.settle.new.clients in
    let later = c.settle.new.self.lanes in
    let same = subst (λ clients. SameClients clients new) c.deref_mut.ensures.value c.settle.ensures.clients in
    record {
      same_lanes =
          subst (AreClients later) (sym (written_back s.clients.len new old same.count s.clients.ok.0))
          (AreClients-later s.resolver.lanes later old new s.same_lanes
          (lanes_settle s.resolver.lanes later c.settle.ensures.lanes) (clients_settle old new same));
    }
