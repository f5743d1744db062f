-- Pairs of lanes over which nothing was taken or sent.
use Rattle.std.proofs.Common.{
  ◌≡◌,
  ℕ,
  zero,
  suc,
  ◌<◌,
  ◌≤◌,
  ◌&&◌,
  false,
  List,
  [],
  ◌∷◌,
  ◌++◌,
  length,
  Some,
  None,
  refl,
  sym,
  ap,
  ap₂,
  subst,
  ◌∙◌,
  arith,
}
use Rattle.std.specs.Prelude.{All, option_to_list, slice_get}
use Rattle.std.proofs.lemmas.Option.{none-some, same_Some}
use Rattle.std.proofs.lemmas.List.Elements.{All-head, All-tail}
use Rattle.keyspace.specs.declared.answer.Answer.{Answer}
use Rattle.keyspace.specs.Run.{Step, run}
use Rattle.resolver.specs.Owed.{owed_to}
use Rattle.resolver.specs.Core.{CoreState, Given, IsIn}
use Rattle.resolver.specs.Stands.{Stands, StandsBy}
use Rattle.resolver.specs.Lanes.{Lanes, all_ended, sent_to, taken_from}
use Rattle.resolver.specs.Parts.{ProxyLanesView, AreNewLanes, lanes_of, owed_with}
use Rattle.resolver.proofs.Standing.{IsIn-standing}

-- what is owed with them is what is owed
pub owed_with-new : (all_lanes : List ProxyLanesView) (owed : List (List Answer)) → All AreNewLanes all_lanes
    → owed_with all_lanes owed ≡ owed
owed_with-new [] owed new = refl
owed_with-new (l ∷ all_lanes) [] new = refl
owed_with-new (l ∷ all_lanes) (answers ∷ owed) new =
    ap₂ (λ xs ys. xs ∷ ys)
    (ap (λ waiting. option_to_list waiting ++ answers) (All-head AreNewLanes l all_lanes new).waiting)
    (owed_with-new all_lanes owed (All-tail AreNewLanes l all_lanes new))

pub all_ended-new : (all_lanes : List ProxyLanesView) → 1 ≤ length all_lanes → All AreNewLanes all_lanes
    → all_ended (lanes_of all_lanes) ≡ false
all_ended-new [] some new = absurd (omega (arith, some))
all_ended-new (l ∷ all_lanes) some new =
    ap (λ ended. ended && all_ended (lanes_of all_lanes)) (All-head AreNewLanes l all_lanes new).ended

pub sent_to-new : (all_lanes : List ProxyLanesView) (proxy : ℕ) → All AreNewLanes all_lanes → sent_to (lanes_of all_lanes) proxy ≡ []
sent_to-new [] proxy new = refl
sent_to-new (l ∷ all_lanes) zero new = (All-head AreNewLanes l all_lanes new).sent
sent_to-new (l ∷ all_lanes) (suc proxy) new = sent_to-new all_lanes proxy (All-tail AreNewLanes l all_lanes new)

pub taken_from-new : (all_lanes : List ProxyLanesView) (proxy : ℕ) → All AreNewLanes all_lanes
    → taken_from (lanes_of all_lanes) proxy ≡ []
taken_from-new [] proxy new = refl
taken_from-new (l ∷ all_lanes) zero new = (All-head AreNewLanes l all_lanes new).taken
taken_from-new (l ∷ all_lanes) (suc proxy) new = taken_from-new all_lanes proxy (All-tail AreNewLanes l all_lanes new)

-- the lanes of one of them are closed at neither end
pub new_proxy_lanes_at : (all_lanes : List ProxyLanesView) → All AreNewLanes all_lanes → (proxy : ℕ) (l : Lanes)
    → slice_get (lanes_of all_lanes) proxy ≡ Some l → (l.replies.closed ≡ false) × (l.ended ≡ false)
new_proxy_lanes_at [] new proxy l at = absurd (none-some l at)
new_proxy_lanes_at (m ∷ all_lanes) new zero l at =
    let is = same_Some m.lanes l at in
    let new = All-head AreNewLanes m all_lanes new in
    (ap (λ k. k.replies.closed) (sym is) ∙ new.closed, ap (λ k. k.ended) (sym is) ∙ new.ended)
new_proxy_lanes_at (m ∷ all_lanes) new (suc proxy) l at =
    new_proxy_lanes_at all_lanes (All-tail AreNewLanes m all_lanes new) proxy l at

-- a core stands for a log with them, as without
pub Stands-new : (core : CoreState) (all_lanes : List ProxyLanesView) (log : List Step) → core.stop ≡ None
    → All AreNewLanes all_lanes → Stands core log (λ _. [])
    → Stands (record core { owed = owed_with all_lanes core.owed }) log
    (sent_to (lanes_of all_lanes))
Stands-new core all_lanes log none new stands =
    subst (λ stop. StandsBy stop log given proxy_lanesed) (sym none) (record {
      version = are.version;
      held = are.held;
      kept = are.kept;
      remembers = are.remembers;
      answers = λ proxy inside.
          ap (λ sent. sent ++ owed_to proxy owed) (sent_to-new all_lanes proxy new)
          ∙ ap (owed_to proxy) same
          ∙ are.answers proxy (subst (λ os. proxy < length os) same inside);
    })
  where
    given : Given
    given = sent_to (lanes_of all_lanes)

    owed : List (List Answer)
    owed = owed_with all_lanes core.owed

    proxy_lanesed : CoreState
    proxy_lanesed = record core { owed = owed }

    same : owed ≡ core.owed
    same = owed_with-new all_lanes core.owed new

    are : IsIn (run core.set.window log) (λ _. []) core
    are = IsIn-standing core.stop log (λ _. []) core none stands
