-- All reply lanes of a resolver were closed.
use Rattle.std.proofs.Common.{◌≡◌, ℕ, true, List, ◌++◌, length, Some, None, sym, ap, subst, ◌∙◌, refl, inl, inr, arith}
use Rattle.std.specs.Prelude.{ℤ, ◌↔◌, is_some, slice_get}
use Rattle.std.proofs.lemmas.Bool.{true≢false}
use Rattle.std.proofs.lemmas.List.{length-map}
use Rattle.std.proofs.lemmas.Option.{slice_get_past, none-some}
use Rattle.keyspace.specs.Run.{Step}
use Rattle.lane.specs.Lane.{HasEnded}
use Rattle.resolver.specs.Owed.{owed_to, owed_count}
use Rattle.resolver.specs.Lanes.{Lanes, Each, sent_to, all_ended}
use Rattle.resolver.specs.OpeningLog.{log_from}
use Rattle.resolver.specs.Resolver.{ResolverState, StandsOverFrom, IsThrough}
use Rattle.resolver.specs.Parts.{ProxyLanesView, Parts, AreParts, EachProxy, lanes_of, owed_with, closed_proxy_lanes, resolver_of}
use Rattle.resolver.proofs.AtIndex.{field_same, both_at, each_lanes, owed_with-length, owed_with-same}
use Rattle.resolver.proofs.DeliveredAnswers.{StandsBy-moved}
use Rattle.resolver.proofs.DeliveryStep.{list_all-same}
use Rattle.resolver.proofs.Logged.{stands_same}

-- what a close ensures of a resolver
abbrev pub ClosedOver : ResolverState → ResolverState → Type 0
ClosedOver old new = record {
  stands : (version : ℤ) (log : List Step) → StandsOverFrom version old log → StandsOverFrom version new log;
  closed : (p : ℕ) (l : Lanes) → slice_get new.lanes p ≡ Some l → (l.replies.closed ≡ true) ↔ IsThrough new;
  core : new.core ≡ old.core;
  lanes : Each (λ _ l m. m ≡ record l { replies = record l.replies { closed = m.replies.closed } }) old.lanes new.lanes;
  count : length new.core.owed ≡ length new.lanes;
  next : new.next ≡ old.next;
}

-- a resolver owes answers to as many proxies as it has lanes
as_many : (parts : Parts) → AreParts parts
    → length (resolver_of parts).core.owed ≡ length (resolver_of parts).lanes
as_many parts are =
    owed_with-length parts.all_lanes parts.core.owed ∙ sym are.count
    ∙ sym (length-map parts.all_lanes (λ l. l.lanes))

-- the parts of a resolver that is through, and its pairs of lanes with their reply lanes closed
module _ (parts : Parts) (are : AreParts parts) (through : IsThrough (resolver_of parts)) (now : List ProxyLanesView)
    (each : EachProxy (λ _ l m. m ≡ closed_proxy_lanes l) parts.all_lanes now) where
  abbrev closed_parts : Parts
  closed_parts = record parts { all_lanes = now; closed = true }

  abbrev LaneClosed : ℕ → Lanes → Lanes → Type 0
  LaneClosed _ l m = m ≡ record l { replies = record l.replies { closed = true } }

  each_lane : Each LaneClosed (lanes_of parts.all_lanes) (lanes_of now)
  each_lane =
      each_lanes (λ _ l m. m ≡ closed_proxy_lanes l) LaneClosed parts.all_lanes now
      (λ p k n at_old at_new is. ap (λ (x : ProxyLanesView). x.lanes) is) each

  lane_before : (p : ℕ) (m : Lanes) → slice_get (lanes_of now) p ≡ Some m
      → (l : Lanes) × (slice_get (lanes_of parts.all_lanes) p ≡ Some l) × LaneClosed p l m
  lane_before p m at =
      elim (both_at (lanes_of parts.all_lanes) (lanes_of now) each_lane.count p) [
        | inl both ↦ (both.0, both.2, each_lane.each p both.0 m both.2 at)
        | inr past ↦ absurd (none-some m (sym (slice_get_past (lanes_of now) p past.1) ∙ at))
      ]

  is_closed : (p : ℕ) (m : Lanes) → slice_get (lanes_of now) p ≡ Some m → m.replies.closed ≡ true
  is_closed p m at = ap (λ (x : Lanes). x.replies.closed) (lane_before p m at).2

  ended_same : all_ended (lanes_of now) ≡ all_ended (lanes_of parts.all_lanes)
  ended_same =
      list_all-same (λ l. l.ended) (lanes_of parts.all_lanes) (lanes_of now) each_lane.count
      (λ p l m at_old at_new. ap (λ (x : Lanes). x.ended) (each_lane.each p l m at_old at_new))

  owed_same : owed_with now parts.core.owed ≡ owed_with parts.all_lanes parts.core.owed
  owed_same =
      owed_with-same parts.all_lanes now parts.core.owed each.count
      (λ p k n at_old at_new. ap (λ (x : ProxyLanesView). x.waiting) (each.each p k n at_old at_new))

  core_same : (resolver_of closed_parts).core ≡ (resolver_of parts).core
  core_same =
      ap (λ owed. record parts.core { owed = owed }) owed_same

  still_through : IsThrough (resolver_of closed_parts)
  still_through = record {
    nothing_owed = subst (λ owed. owed_count owed ≡ 0) (sym owed_same) through.nothing_owed;
    no_more = elim through.no_more [
      | inl ended ↦ inl (ended_same ∙ ended)
      | inr stopped ↦ inr stopped
    ];
  }

  parts_after : AreParts closed_parts
  parts_after = record {
    count = each.count ∙ are.count;
    few = omega (arith, are.few, each.count);
    some = omega (arith, are.some, each.count);
    in_range = omega (arith, are.in_range, each.count);
    finished = λ none. are.finished none ∙ sym ended_same;
    ended = λ p m at ended.
        let l = lane_before p m at in
        subst HasEnded (ap (λ (x : Lanes). x.requests) (sym l.2))
        (are.ended p l.0 l.1 (ap (λ (x : Lanes). x.ended) (sym l.2) ∙ ended));
    closed = is_closed;
    through = λ _. still_through;
  }

  -- without a stop all lanes have ended
  ended_of : parts.core.stop ≡ None → all_ended (lanes_of now) ≡ true
  ended_of running =
      elim still_through.no_more [
        | inl ended ↦ ended
        | inr stopped ↦ absurd (true≢false (sym stopped ∙ ap is_some running))
      ]

  stands_after : (version : ℤ) (log : List Step) → StandsOverFrom version (resolver_of parts) log
      → StandsOverFrom version (resolver_of closed_parts) log
  stands_after version log stands =
      let old = resolver_of parts in
      let new = resolver_of closed_parts in
      let none_taken = field_same (λ (l : Lanes). l.requests.taken) old.lanes new.lanes each_lane.count
      (λ p l m at_old at_new. ap (λ (x : Lanes). x.requests.taken) (each_lane.each p l m at_old at_new)) in
      let none_sent = field_same (λ (l : Lanes). l.replies.sent) old.lanes new.lanes each_lane.count
      (λ p l m at_old at_new. ap (λ (x : Lanes). x.replies.sent) (each_lane.each p l m at_old at_new)) in
      stands_same old new version log each_lane.count refl ended_same none_taken stands
      (StandsBy-moved (sent_to old.lanes) (sent_to new.lanes) old.core new.core.owed
      (ap length owed_same)
      (λ p _. ap (λ xs. xs ++ owed_to p new.core.owed) (none_sent p)
      ∙ ap (λ owed. sent_to old.lanes p ++ owed_to p owed) owed_same) old.core.stop
      (log_from version (length old.lanes) log) stands.core)
      (λ running p m at closed. ended_of running)

  closed_over : ClosedOver (resolver_of parts) (resolver_of closed_parts)
  closed_over = record {
    stands = stands_after;
    closed = λ p l at. (λ _. still_through, λ _. is_closed p l at);
    core = core_same;
    lanes = record {
      count = each_lane.count;
      each = λ p l m at_old at_new.
          each_lane.each p l m at_old at_new
          ∙ ap (λ x. record l { replies = record l.replies { closed = x } }) (sym (is_closed p m at_new));
    };
    count = as_many closed_parts parts_after;
    next = refl;
  }

-- as the resolver is read after the calls
pub as_many_seen : {parts : Parts} {old : ResolverState} → AreParts parts → resolver_of parts ≡ old
    → length old.core.owed ≡ length old.lanes
as_many_seen {parts} are was =
    subst (λ (r : ResolverState). length r.core.owed ≡ length r.lanes) was (as_many parts are)

module _ {parts : Parts} {old : ResolverState} {seen now all_lanes : List ProxyLanesView} where
  pub closed_all : AreParts parts → resolver_of parts ≡ old → IsThrough old → seen ≡ parts.all_lanes
      → EachProxy (λ _ l m. m ≡ closed_proxy_lanes l) seen now → all_lanes ≡ now
      → AreParts (record parts { all_lanes = all_lanes; closed = true })
      × ClosedOver old (resolver_of (record parts { all_lanes = all_lanes; closed = true }))
  closed_all are was through seen_is each all_lanes_are =
      let through_parts = subst IsThrough (sym was) through in
      let each_of = subst (λ ls. EachProxy (λ _ l m. m ≡ closed_proxy_lanes l) ls now) seen_is each in
      subst (λ ls. AreParts (record parts { all_lanes = ls; closed = true })
      × ClosedOver old (resolver_of (record parts { all_lanes = ls; closed = true }))) (sym all_lanes_are) (
        parts_after parts are through_parts now each_of,
        subst (λ r. ClosedOver r (resolver_of (record parts { all_lanes = now; closed = true }))) was
            (closed_over parts are through_parts now each_of),
      )
