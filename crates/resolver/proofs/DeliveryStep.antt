-- Answers were handed out over the pairs of lanes of a resolver.
use Rattle.std.proofs.Common.{◌≡◌, ◌≢◌, ℕ, zero, suc, ◌<◌, ◌≤◌, Bool, true, List, [], ◌∷◌, ◌++◌, length, Some, sym, ap, subst, ◌∙◌, refl, inl, inr, arith}
use Rattle.std.specs.Prelude.{ℤ, ◌⊎◌, option_to_list, slice_get}
use Rattle.std.specs.List.{list_all}
use Rattle.std.proofs.lemmas.Option.{slice_get_within, slice_get_past, none-some}
use Rattle.std.proofs.lemmas.List.{length-map, length-append, get_or_past, nil_from_length}
use Rattle.std.proofs.lemmas.List.Sums.{sum_by-cons}
use Rattle.keyspace.specs.declared.answer.Answer.{Answer}
use Rattle.keyspace.specs.Run.{Step}
use Rattle.lane.specs.Lane.{PortContinues, HasEnded}
use Rattle.resolver.specs.Owed.{owed_to, owed_count}
use Rattle.resolver.specs.Core.{CoreState, made_to}
use Rattle.resolver.specs.Lanes.{Lanes, Each, sent_to, all_ended, IsFull}
use Rattle.resolver.specs.OpeningLog.{log_from}
use Rattle.resolver.specs.Resolver.{ResolverState, StandsOverFrom, SameExcept, IsThrough}
use Rattle.resolver.specs.Parts.{ProxyLanesView, Parts, AreParts, EachProxy, Delivers, OwesOnly, lanes_of, owed_with, made_over, resolver_of}
use Rattle.resolver.proofs.AtIndex.{field_at, field_past, field_same, lanes_at, both_at, each_lanes, owed_with-at, owed_with-length}
use Rattle.resolver.proofs.DeliveredAnswers.{StandsBy-moved}
use Rattle.resolver.proofs.Logged.{stands_same, was_closed}

-- a test with the same result at each index
pub list_all-same : {X : Type 0} (test : X → Bool) (old new : List X) → length new ≡ length old
    → ((p : ℕ) (x y : X) → slice_get old p ≡ Some x → slice_get new p ≡ Some y → test y ≡ test x)
    → list_all test new ≡ list_all test old
list_all-same test [] [] same each = refl
list_all-same test [] (y ∷ new) same each = absurd (omega (arith, same))
list_all-same test (x ∷ old) [] same each = absurd (omega (arith, same))
list_all-same test (x ∷ old) (y ∷ new) same each =
    let first = each 0 x y refl refl in
    let rest = list_all-same test old new (omega (arith, same)) (λ p. each (suc p)) in
    cc

-- if no more is owed to any proxy, no more is owed to all
owed_count-le : (old new : List (List Answer)) → length new ≡ length old
    → ((p : ℕ) → length (owed_to p new) ≤ length (owed_to p old)) → owed_count new ≤ owed_count old
owed_count-le [] [] same each = omega arith
owed_count-le [] (y ∷ new) same each = absurd (omega (arith, same))
owed_count-le (x ∷ old) [] same each = absurd (omega (arith, same))
owed_count-le (x ∷ old) (y ∷ new) same each =
    let rest = owed_count-le old new (omega (arith, same)) (λ p. each (suc p)) in
    omega (arith, each 0, rest, sum_by-cons length x old, sum_by-cons length y new)

-- where nothing is owed to all, nothing is to any
pub owed_to-none : (owed : List (List Answer)) (p : ℕ) → owed_count owed ≡ 0 → owed_to p owed ≡ []
owed_to-none [] p none = refl
owed_to-none (answers ∷ owed) zero none =
    nil_from_length answers (omega (arith, none, sum_by-cons length answers owed))
owed_to-none (answers ∷ owed) (suc p) none =
    owed_to-none owed p (omega (arith, none, sum_by-cons length answers owed))

-- the answers made to the proxy of a pair of lanes
made_at : (all_lanes : List ProxyLanesView) (owed : List (List Answer)) (p : ℕ) (k : ProxyLanesView) → slice_get all_lanes p ≡ Some k
    → p < length owed
    → sent_to (lanes_of all_lanes) p ++ owed_to p (owed_with all_lanes owed) ≡ made_over k (owed_to p owed)
made_at all_lanes owed p k at inside =
    ap (λ xs. xs ++ owed_to p (owed_with all_lanes owed))
    (field_at (λ (l : Lanes). l.replies.sent) (lanes_of all_lanes) p k.lanes (lanes_at all_lanes p k at))
    ∙ ap (λ xs. k.lanes.replies.sent ++ xs) (owed_with-at all_lanes owed p k at inside)

made_past : (all_lanes : List ProxyLanesView) (owed : List (List Answer)) (p : ℕ) → length all_lanes ≤ p → length owed ≤ p
    → sent_to (lanes_of all_lanes) p ++ owed_to p (owed_with all_lanes owed) ≡ []
made_past all_lanes owed p past_all_lanes past_owed =
    ap (λ xs. xs ++ owed_to p (owed_with all_lanes owed))
    (field_past (λ (l : Lanes). l.replies.sent) (lanes_of all_lanes) p
    (omega (arith, past_all_lanes, length-map all_lanes (λ l. l.lanes))))
    ∙ get_or_past (owed_with all_lanes owed) p [] (omega (arith, past_owed, owed_with-length all_lanes owed))

-- what is owed no more than before, if a prefix of what is sent was
owed_less : (l m : ProxyLanesView) (before after : List Answer) → Delivers l m before after
    → length (option_to_list m.waiting ++ after) ≤ length (option_to_list l.waiting ++ before)
owed_less l m before after h =
    omega (
      arith,
      ap length h.made,
      ap length h.sent.1,
      length-append l.lanes.replies.sent h.sent.0,
      length-append l.lanes.replies.sent (option_to_list l.waiting ++ before),
      length-append m.lanes.replies.sent (option_to_list m.waiting ++ after),
    )

module _ (before after : List (List Answer)) (all_lanes now : List ProxyLanesView) (many : length after ≡ length before)
    (count : length all_lanes ≡ length before)
    (each : EachProxy (λ p l m. Delivers l m (owed_to p before) (owed_to p after)) all_lanes now) where
  -- the same answers were made
  made_same : (p : ℕ) → sent_to (lanes_of now) p ++ owed_to p (owed_with now after)
      ≡ sent_to (lanes_of all_lanes) p ++ owed_to p (owed_with all_lanes before)
  made_same p =
      elim (both_at all_lanes now each.count p) [
        | inl both ↦
            let inside : p < length before = omega (arith, slice_get_within all_lanes p both.0 both.2, count) in
            made_at now after p both.1 both.3 (omega (arith, inside, many))
            ∙ (each.each p both.0 both.1 both.2 both.3).made ∙ sym (made_at all_lanes before p both.0 both.2 inside)
        | inr past ↦
            made_past now after p past.1 (omega (arith, past.0, count, many))
            ∙ sym (made_past all_lanes before p past.0 (omega (arith, past.0, count)))
      ]

  -- and no more is owed
  owed_fewer : (p : ℕ) → length (owed_to p (owed_with now after)) ≤ length (owed_to p (owed_with all_lanes before))
  owed_fewer p =
      elim (both_at all_lanes now each.count p) [
        | inl both ↦
            let inside : p < length before = omega (arith, slice_get_within all_lanes p both.0 both.2, count) in
            let less = owed_less both.0 both.1 (owed_to p before) (owed_to p after)
            (each.each p both.0 both.1 both.2 both.3) in
            omega (
              arith,
              less,
              ap length (owed_with-at now after p both.1 both.3 (omega (arith, inside, many))),
              ap length (owed_with-at all_lanes before p both.0 both.2 inside),
            )
        | inr past ↦
            omega (
              arith,
              ap length (get_or_past (owed_with now after) p []
                  (omega (arith, past.0, count, many, owed_with-length now after))),
            )
      ]

  count_fewer : owed_count (owed_with now after) ≤ owed_count (owed_with all_lanes before)
  count_fewer =
      owed_count-le (owed_with all_lanes before) (owed_with now after)
      (owed_with-length now after ∙ many ∙ sym (owed_with-length all_lanes before)) owed_fewer

-- what a handing out ensures of a resolver
abbrev pub IsDelivery : ResolverState → ResolverState → Type 0
IsDelivery old new = record {
  stands : (version : ℤ) (log : List Step) → StandsOverFrom version old log → StandsOverFrom version new log;
  made : (p : ℕ) → made_to p (sent_to new.lanes) new.core ≡ made_to p (sent_to old.lanes) old.core;
  owed : Each (λ p l m. owed_to p new.core.owed ≢ [] → IsFull l m) old.lanes new.lanes;
  lanes : Each (λ _ l m. (m ≡ record l { replies = m.replies }) × PortContinues l.replies m.replies) old.lanes new.lanes;
  same : SameExcept old new;
}

-- the parts of a resolver, the core that has handed out, and what the pairs of lanes have become
module _ (parts : Parts) (are : AreParts parts) (core : CoreState) (only : OwesOnly parts.core core)
    (now : List ProxyLanesView)
    (each : EachProxy (λ p l m. Delivers l m (owed_to p parts.core.owed) (owed_to p core.owed))
    parts.all_lanes now) where
  abbrev before : List (List Answer)
  before = owed_with parts.all_lanes parts.core.owed

  abbrev after : List (List Answer)
  after = owed_with now core.owed

  abbrev delivered_parts : Parts
  delivered_parts = record parts {
    core = record parts.core { owed = core.owed };
    all_lanes = now;
  }

  -- what is known of each lane
  abbrev LaneDelivered : ℕ → Lanes → Lanes → Type 0
  LaneDelivered p l m =
      (m ≡ record l { replies = m.replies })
      × PortContinues l.replies m.replies
      × (m.replies.closed ≡ l.replies.closed)
      × (owed_to p after ≢ [] → (m.replies.closed ≡ true) ⊎ IsFull l m)

  each_lane : Each LaneDelivered (lanes_of parts.all_lanes) (lanes_of now)
  each_lane =
      each_lanes (λ p l m. Delivers l m (owed_to p parts.core.owed) (owed_to p core.owed)) LaneDelivered
      parts.all_lanes now
      (λ p k n at_old at_new h.
      let owed_is = owed_with-at now core.owed p n at_new
      (omega (arith, slice_get_within parts.all_lanes p k at_old, are.count, only.count)) in (
        ap (λ x. record n.lanes { requests = x }) h.requests
            ∙ ap (λ x. record n.lanes { requests = k.lanes.requests; ended = x }) h.ended,
        h.replies,
        h.closed,
        λ some. h.full (λ none. some (owed_is ∙ none)),
      )) each

  ended_same : all_ended (lanes_of now) ≡ all_ended (lanes_of parts.all_lanes)
  ended_same =
      list_all-same (λ l. l.ended) (lanes_of parts.all_lanes) (lanes_of now) each_lane.count
      (λ p l m at_old at_new. ap (λ (x : Lanes). x.ended) (each_lane.each p l m at_old at_new).0)

  -- the lane before
  lane_before : (p : ℕ) (m : Lanes) → slice_get (lanes_of now) p ≡ Some m
      → (l : Lanes) × (slice_get (lanes_of parts.all_lanes) p ≡ Some l) × LaneDelivered p l m
  lane_before p m at =
      elim (both_at (lanes_of parts.all_lanes) (lanes_of now) each_lane.count p) [
        | inl both ↦ (both.0, both.2, each_lane.each p both.0 m both.2 at)
        | inr past ↦ absurd (none-some m (sym (slice_get_past (lanes_of now) p past.1) ∙ at))
      ]

  through : parts.closed ≡ true → IsThrough (resolver_of delivered_parts)
  through closed =
      let was = are.through closed in
      let fewer = count_fewer parts.core.owed core.owed parts.all_lanes now only.count are.count each in
      record {
        nothing_owed = omega (arith, was.nothing_owed, fewer);
        no_more = elim was.no_more [
          | inl ended ↦ inl (ended_same ∙ ended)
          | inr stopped ↦ inr stopped
        ];
      }

  parts_after : AreParts delivered_parts
  parts_after = record {
    count = each.count ∙ are.count ∙ sym only.count;
    few = omega (arith, are.few, each.count);
    some = omega (arith, are.some, each.count);
    in_range = omega (arith, are.in_range, each.count);
    finished = λ none. are.finished none ∙ sym ended_same;
    ended = λ p m at ended.
        let l = lane_before p m at in
        subst HasEnded (ap (λ (x : Lanes). x.requests) (sym l.2.0))
        (are.ended p l.0 l.1 (ap (λ (x : Lanes). x.ended) (sym l.2.0) ∙ ended));
    closed = λ p m at.
        let l = lane_before p m at in
        l.2.2 ∙ are.closed p l.0 l.1;
    through = through;
  }

  same_count : length after ≡ length before
  same_count =
      owed_with-length now core.owed ∙ only.count ∙ sym (owed_with-length parts.all_lanes parts.core.owed)

  made_equal : (p : ℕ) → sent_to (lanes_of now) p ++ owed_to p after ≡ sent_to (lanes_of parts.all_lanes) p ++ owed_to p before
  made_equal = made_same parts.core.owed core.owed parts.all_lanes now only.count are.count each

  stands_after : (version : ℤ) (log : List Step) → StandsOverFrom version (resolver_of parts) log
      → StandsOverFrom version (resolver_of delivered_parts) log
  stands_after version log stands =
      let old = resolver_of parts in
      let new = resolver_of delivered_parts in
      let none_taken = field_same (λ (l : Lanes). l.requests.taken) old.lanes new.lanes each_lane.count
      (λ p l m at_old at_new. ap (λ (x : Lanes). x.requests.taken) (each_lane.each p l m at_old at_new).0) in
      let closed_same = λ (p : ℕ) (l m : Lanes) (at_old : slice_get old.lanes p ≡ Some l)
      (at_new : slice_get new.lanes p ≡ Some m). (each_lane.each p l m at_old at_new).2 in
      stands_same old new version log each_lane.count refl ended_same none_taken stands
      (StandsBy-moved (sent_to old.lanes) (sent_to new.lanes) old.core after same_count
      (λ p _. made_equal p) old.core.stop (log_from version (length old.lanes) log) stands.core)
      (λ running p m at closed.
      ended_same ∙ was_closed old new version log each_lane.count closed_same running stands p m at closed)

  is_delivery : IsDelivery (resolver_of parts) (resolver_of delivered_parts)
  is_delivery = record {
    stands = stands_after;
    made = made_equal;
    owed = record {
      count = each_lane.count;
      each = λ p l m at_old at_new some.
          elim ((each_lane.each p l m at_old at_new).3 some) [
            | inl closed ↦
                let closed_parts = sym (parts_after.closed p m at_new) ∙ closed in
                absurd (some (owed_to-none after p (through closed_parts).nothing_owed))
            | inr full ↦ full
          ];
    };
    lanes = record {
      count = each_lane.count;
      each = λ p l m at_old at_new.
          let e = each_lane.each p l m at_old at_new in
          (e.0, e.1);
    };
    same = record { stop = refl; core = refl; proxies = same_count; next = refl };
  }

-- as the resolver is read after the calls
module _ {parts : Parts} {core : CoreState} {old : ResolverState} {seen now all_lanes : List ProxyLanesView} where
  pub delivered : AreParts parts → resolver_of parts ≡ old → OwesOnly parts.core core → seen ≡ parts.all_lanes
      → EachProxy (λ p l m. Delivers l m (owed_to p parts.core.owed) (owed_to p core.owed)) seen now
      → all_lanes ≡ now
      → AreParts (record parts { core = core; all_lanes = all_lanes })
      × IsDelivery old (resolver_of (record parts { core = core; all_lanes = all_lanes }))
  delivered are was only seen_is each all_lanes_are =
      let each_of = subst (λ ls. EachProxy (λ p l m. Delivers l m (owed_to p parts.core.owed) (owed_to p core.owed)) ls now) seen_is each in
      subst (λ ls. AreParts (record parts { core = core; all_lanes = ls })
      × IsDelivery old (resolver_of (record parts { core = core; all_lanes = ls }))) (sym all_lanes_are)
      (subst (λ k. AreParts (record parts { core = k; all_lanes = now })
      × IsDelivery old (resolver_of (record parts { core = k; all_lanes = now }))) (sym only.same)
      (parts_after parts are core only now each_of, subst (λ r. IsDelivery r (resolver_of (delivered_parts parts are core only now each_of))) was (is_delivery parts are core only now each_of)))
