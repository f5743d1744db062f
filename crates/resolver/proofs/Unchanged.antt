-- Pairs of lanes that are settled: no list has changed, and no answer that waits.
use Rattle.std.proofs.Common.{◌≡◌, ℕ, zero, suc, ◌≤◌, ◌&&◌, true, List, [], ◌∷◌, length, Some, refl, sym, ap, ap₂, subst, subst₂, ◌∙◌, inl, inr, arith}
use Rattle.std.specs.Prelude.{slice_get}
use Rattle.std.proofs.lemmas.Option.{slice_get_within}
use Rattle.std.proofs.lemmas.List.{length-map}
use Rattle.keyspace.specs.declared.answer.Answer.{Answer}
use Rattle.lane.specs.Lane.{Lane, HasEnded}
use Rattle.resolver.specs.declared.client.Client.{Client}
use Rattle.limits.specs.declared.settings.TheConstants.{MAX_PROXIES}
use Rattle.resolver.specs.Owed.{owed_count}
use Rattle.resolver.specs.Lanes.{Each, LanesContinue, AreSameLists, all_ended}
use Rattle.resolver.specs.Resolver.{IsThrough, SameClients}
use Rattle.resolver.specs.Parts.{
  ProxyLanesView,
  Parts,
  AreParts,
  SettlesLanes,
  EachSettled,
  lanes_of,
  owed_with,
  resolver_of,
}
use Rattle.keys.proofs.callers.Lists.{some_at}
use Rattle.resolver.proofs.AtIndex.{owed_with-same, proxy_lanes_at}
use Rattle.resolver.proofs.Settling.{lanes_at}

all_ended-same : (old new : List ProxyLanesView) → length new ≡ length old
    → ((proxy : ℕ) (l m : ProxyLanesView) → slice_get old proxy ≡ Some l → slice_get new proxy ≡ Some m
    → m.lanes.ended ≡ l.lanes.ended)
    → all_ended (lanes_of new) ≡ all_ended (lanes_of old)
all_ended-same [] [] count same = refl
all_ended-same [] (m ∷ new) count same = absurd (omega (arith, count))
all_ended-same (l ∷ old) [] count same = absurd (omega (arith, count))
all_ended-same (l ∷ old) (m ∷ new) count same =
    ap₂ (λ a b. a && b) (same zero l m refl refl)
    (all_ended-same old new (omega (arith, count)) (λ proxy. same (suc proxy)))

-- *Lane* of both lanes of each pair, with its client
abbrev pub LanesHold : List ProxyLanesView → List Client → Type 0
LanesHold all_lanes clients =
    (proxy : ℕ) (l : ProxyLanesView) (c : Client) → slice_get all_lanes proxy ≡ Some l → slice_get clients proxy ≡ Some c
    → Lane c.requests l.lanes.requests × Lane l.lanes.replies c.replies

module _ (old new : List ProxyLanesView) (before after : List Client) (each : EachSettled old before new after)
    (count : length before ≡ length (lanes_of old)) where
  many : length before ≡ length old
  many = count ∙ length-map old (λ l. l.lanes)

  -- a pair of lanes and its client, before and after
  settles_at : (proxy : ℕ) (l m : ProxyLanesView) → slice_get old proxy ≡ Some l → slice_get new proxy ≡ Some m
      → (c d : Client) × SettlesLanes l c m d
  settles_at proxy l m l_at m_at =
      let inside = slice_get_within old proxy l l_at in
      let c = some_at before proxy (omega (arith, inside, many)) in
      let d = some_at after proxy (omega (arith, inside, many, each.clients)) in
      (c.0, d.0, each.each proxy l m c.0 d.0 l_at m_at c.1 d.1)

  pub owed_with-settled : (owed : List (List Answer)) → owed_with new owed ≡ owed_with old owed
  owed_with-settled owed =
      owed_with-same old new owed each.count (λ proxy l m l_at m_at. (settles_at proxy l m l_at m_at).2.waiting)

  all_ended-settled : all_ended (lanes_of new) ≡ all_ended (lanes_of old)
  all_ended-settled =
      all_ended-same old new each.count
      (λ proxy l m l_at m_at. (settles_at proxy l m l_at m_at).2.same.ended)

  pub lanes_hold : LanesHold old before
  lanes_hold proxy l c l_at c_at =
      let inside = slice_get_within old proxy l l_at in
      let m = some_at new proxy (omega (arith, inside, each.count)) in
      let d = some_at after proxy (omega (arith, inside, many, each.clients)) in
      let settles = each.each proxy l m.0 c d.0 l_at m.1 c_at d.1 in
      (settles.requests, settles.replies)

  -- each pair of lanes continues, with the same lists
  pub lanes_settled : Each (λ _ l m. LanesContinue l m × AreSameLists l m) (lanes_of old) (lanes_of new)
  lanes_settled = record {
    count = length-map new (λ l. l.lanes) ∙ each.count ∙ sym (length-map old (λ l. l.lanes));
    each = λ proxy l m l_at m_at.
        let k = proxy_lanes_at old proxy l l_at in
        let n = proxy_lanes_at new proxy m m_at in
        let settles = (settles_at proxy k.0 n.0 k.1 n.1).2 in
        subst₂ (λ x y. LanesContinue x y × AreSameLists x y) k.2 n.2 (settles.continues, settles.same);
  }

  -- and each client
  pub clients_settled : SameClients before after
  clients_settled = record {
    count = each.clients;
    each = λ proxy c d c_at d_at.
        let inside = slice_get_within before proxy c c_at in
        let l = some_at old proxy (omega (arith, inside, many)) in
        let m = some_at new proxy (omega (arith, inside, many, each.count)) in
        (each.each proxy l.0 m.0 c d l.1 m.1 c_at d_at).client;
  }

-- the parts of a resolver, with these pairs of lanes
abbrev pub with_all_lanes : Parts → List ProxyLanesView → Parts
with_all_lanes p all_lanes = record p { all_lanes = all_lanes }

module _ (p : Parts) (new : List ProxyLanesView) (before after : List Client)
    (each : EachSettled p.all_lanes before new after) (count : length before ≡ length (lanes_of p.all_lanes)) where
  owed_same : owed_with new p.core.owed ≡ owed_with p.all_lanes p.core.owed
  owed_same = owed_with-settled p.all_lanes new before after each count p.core.owed

  ended_same : all_ended (lanes_of new) ≡ all_ended (lanes_of p.all_lanes)
  ended_same = all_ended-settled p.all_lanes new before after each count

  through_settled : IsThrough (resolver_of p) → IsThrough (resolver_of (with_all_lanes p new))
  through_settled through = record {
    nothing_owed = ap owed_count owed_same ∙ through.nothing_owed;
    no_more = elim through.no_more [ inl ended ↦ inl (ended_same ∙ ended) | inr stop ↦ inr stop ];
  }

  -- they are still the parts of a resolver
  pub AreParts-settled : AreParts p → AreParts (with_all_lanes p new)
  AreParts-settled are = record {
    count = each.count ∙ are.count;
    few = subst (λ n. n ≤ MAX_PROXIES) (sym each.count) are.few;
    some = subst (λ n. 1 ≤ n) (sym each.count) are.some;
    in_range = subst (λ n. p.next ≤ n) (sym each.count) are.in_range;
    finished = λ none. are.finished none ∙ sym ended_same;
    ended = λ proxy k at.
        let m = proxy_lanes_at new proxy k at in
        let l = old_proxy_lanes proxy m.0 m.1 in
        subst (λ lanes. lanes.ended ≡ true → HasEnded lanes.requests) m.2
        ((settled proxy l.0 m.0 l.1 m.1).at_end (are.ended proxy l.0.lanes (lanes_at p.all_lanes proxy l.0 l.1)));
    closed = λ proxy k at.
        let m = proxy_lanes_at new proxy k at in
        let l = old_proxy_lanes proxy m.0 m.1 in
        ap (λ lanes. lanes.replies.closed) (sym m.2) ∙ (settled proxy l.0 m.0 l.1 m.1).same.closed
        ∙ are.closed proxy l.0.lanes (lanes_at p.all_lanes proxy l.0 l.1);
    through = λ closed. through_settled (are.through closed);
  }
    where
      old_proxy_lanes : (proxy : ℕ) (m : ProxyLanesView) → slice_get new proxy ≡ Some m
          → (l : ProxyLanesView) × (slice_get p.all_lanes proxy ≡ Some l)
      old_proxy_lanes proxy m at =
          let inside = slice_get_within new proxy m at in
          some_at p.all_lanes proxy (omega (arith, inside, each.count))

      settled : (proxy : ℕ) (l m : ProxyLanesView) (l_at : slice_get p.all_lanes proxy ≡ Some l)
          (m_at : slice_get new proxy ≡ Some m)
          → SettlesLanes l (settles_at p.all_lanes new before after each count proxy l m l_at m_at).0 m
          (settles_at p.all_lanes new before after each count proxy l m l_at m_at).1
      settled proxy l m l_at m_at = (settles_at p.all_lanes new before after each count proxy l m l_at m_at).2
