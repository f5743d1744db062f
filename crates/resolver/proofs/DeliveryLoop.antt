-- Answers that go from what is owed to what is sent.
use Rattle.std.proofs.Common.{◌≡◌, ◌≢◌, ℕ, ◌<◌, ◌≤◌, ◌+◌, List, [], ◌++◌, length, get_or, set, None, sym, ap, ◌∙◌, subst, arith}
use Rattle.std.specs.Prelude.{option_to_list}
use Rattle.keyspace.specs.declared.answer.Answer.{Answer}
use Rattle.lane.specs.Lane.{PortContinues}
use Rattle.resolver.specs.Core.{CoreState, IsPrefix}
use Rattle.resolver.specs.Owed.{owed_to}
use Rattle.resolver.specs.Parts.{ProxyLanesView, EachProxy, Delivers, OwesOnly, made_over}
use Rattle.resolver.proofs.Each.{PerProxy, EachProxy-set}

-- answers were handed out so far, whether or not the lane is full
pub record DeliversOn (old now : ProxyLanesView) (owed_before owed_now : List Answer) : Type 0 where
  pub made : made_over now owed_now ≡ made_over old owed_before
  pub sent : IsPrefix old.lanes.replies.sent now.lanes.replies.sent
  pub requests : now.lanes.requests ≡ old.lanes.requests
  pub ended : now.lanes.ended ≡ old.lanes.ended
  pub replies : PortContinues old.lanes.replies now.lanes.replies
  pub closed : now.lanes.replies.closed ≡ old.lanes.replies.closed

-- and now nothing is left
pub Delivers-all : (old now new : ProxyLanesView) (before owed left : List Answer) → DeliversOn old now before owed
    → option_to_list now.waiting ++ owed ≡ left → new ≡ record now { waiting = None } → left ≡ []
    → Delivers old new before left
Delivers-all old now new before owed left on next is none = record {
  made = ap (λ k. made_over k left) is ∙ ap (λ xs. now.lanes.replies.sent ++ xs) (sym next) ∙ on.made;
  sent = subst (λ k. IsPrefix old.lanes.replies.sent k.lanes.replies.sent) (sym is) on.sent;
  full = λ some. absurd (some (ap (λ k. option_to_list k.waiting ++ left) is ∙ none));
  requests = ap (λ k. k.lanes.requests) is ∙ on.requests;
  ended = ap (λ k. k.lanes.ended) is ∙ on.ended;
  replies = subst (λ k. PortContinues old.lanes.replies k.lanes.replies) (sym is) on.replies;
  closed = ap (λ k. k.lanes.replies.closed) is ∙ on.closed;
}

-- the pairs of lanes before this one have handed out, and the others are as they were
abbrev pub DeliveredBelow : ℕ → List (List Answer) → List (List Answer) → PerProxy
DeliveredBelow i before after q old now =
    (q < i → Delivers old now (owed_to q before) (owed_to q after)) × (i ≤ q → now ≡ old)

-- this pair of lanes delivers too
pub EachProxy-delivered : {old now : List ProxyLanesView} (i : ℕ) (x d : ProxyLanesView) (before mid after : List (List Answer))
    → i < length now → ((q : ℕ) → i ≤ q → owed_to q mid ≡ owed_to q before)
    → ((q : ℕ) → q ≢ i → owed_to q after ≡ owed_to q mid)
    → Delivers (get_or now i d) x (owed_to i mid) (owed_to i after) → EachProxy (DeliveredBelow i before mid) old now
    → EachProxy (DeliveredBelow (i + 1) before after) old (set now i x)
EachProxy-delivered {old} {now} i x d before mid after inside unchanged others delivers =
    EachProxy-set (DeliveredBelow i before mid) (DeliveredBelow (i + 1) before after) i x d inside
    (λ l delivered. (
      λ _.
          subst (λ k. Delivers k x (owed_to i before) (owed_to i after)) (delivered.1 (omega arith))
          (subst (λ o. Delivers (get_or now i d) x o (owed_to i after)) (unchanged i (omega arith)) delivers),
      λ past. absurd (omega arith),
    ))
    (λ q l m apart delivered. (
      λ below.
          subst (Delivers l m (owed_to q before)) (sym (others q apart)) (delivered.0 (omega (arith, below, apart))),
      λ past. delivered.1 (omega arith),
    ))

-- the core owes less, and then less again
pub OwesOnly-then : {old mid now : CoreState} → OwesOnly old mid → OwesOnly mid now → OwesOnly old now
OwesOnly-then {old} {mid} {now} e f = record {
  count = f.count ∙ e.count;
  same = f.same ∙ ap (λ (k : CoreState). record k { owed = now.owed }) e.same;
}
