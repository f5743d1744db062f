-- Lemmas for callers: a core later, and the ends of lanes later: they are still of the same lanes.
use Rattle.std.proofs.Common.{
  ◌≡◌,
  ℕ,
  List,
  length,
  Some,
  set,
  refl,
  sym,
  ap,
  subst,
  subst₂,
  ◌∙◌,
  inl,
  inr,
  arith,
}
use Rattle.std.specs.Prelude.{slice_get}
use Rattle.std.proofs.lemmas.Bool.{cases_eq}
use Rattle.std.proofs.lemmas.Option.{same_Some, slice_get_within}
use Rattle.std.proofs.lemmas.List.{length-set}
use Rattle.lane.specs.Lane.{PortView, IntakeView, SameLane, PortContinues, IntakeContinues}
use Rattle.resolver.specs.declared.client.Client.{Client}
use Rattle.resolver.specs.Core.{CoreState, Continues}
use Rattle.resolver.specs.Lanes.{Lanes, Each, LanesContinue}
use Rattle.resolver.specs.Resolver.{AreClients}
use Rattle.keys.proofs.callers.Lists.{some_at}
use Rattle.resolver.proofs.Settling.{slice_get-set_same, slice_get-set_other}

-- what stays the same over two changes
pub Continues-then : (first second third : CoreState) → Continues first second → Continues second third → Continues first third
Continues-then first second third g h = record {
  window = h.window ∙ g.window;
  limit = h.limit ∙ g.limit;
  proxies = h.proxies ∙ g.proxies;
}

same_lane_later : {T : Type 0} (p q : PortView T) (t u : IntakeView T) → SameLane p t → PortContinues p q
    → IntakeContinues t u → SameLane q u
same_lane_later p q t u same port intake = record {
  lane = port.lane ∙ same.lane ∙ sym intake.lane;
  capacity = port.capacity ∙ same.capacity ∙ sym intake.capacity;
}

pub port_same : {T : Type 0} (p : PortView T) → PortContinues p p
port_same p = record { lane = refl; capacity = refl; seen_taken = omega arith; looks = omega arith }

pub intake_same : {T : Type 0} (t : IntakeView T) → IntakeContinues t t
intake_same t = record {
  lane = refl;
  capacity = refl;
  seen_sent = omega arith;
  seen_close = λ close. close;
  looks = omega arith;
}

-- a client later
pub record ClientContinues (old new : Client) : Type 0 where
  pub requests : PortContinues old.requests new.requests
  pub replies : IntakeContinues old.replies new.replies

client_same : (c : Client) → ClientContinues c c
client_same c = record { requests = port_same c.requests; replies = intake_same c.replies }

-- the clients later
pub record ClientsContinue (old new : List Client) : Type 0 where
  pub count : length new ≡ length old
  pub each : (proxy : ℕ) (c d : Client) → slice_get old proxy ≡ Some c → slice_get new proxy ≡ Some d → ClientContinues c d

same_at : (clients : List Client) (proxy : ℕ) (c d : Client) → slice_get clients proxy ≡ Some c
    → slice_get clients proxy ≡ Some d → ClientContinues c d
same_at clients proxy c d c_at d_at = subst (ClientContinues c) (same_Some c d (sym c_at ∙ d_at)) (client_same c)

pub clients_same : (clients : List Client) → ClientsContinue clients clients
clients_same clients = record { count = refl; each = same_at clients }

pub clients_set : (clients : List Client) (i : ℕ) (old new : Client) → slice_get clients i ≡ Some old
    → ClientContinues old new → ClientsContinue clients (set clients i new)
clients_set clients i old new at continues = record {
  count = length-set clients i new;
  each = λ proxy c d c_at d_at. elim (cases_eq proxy i) [
    | inl here ↦
        subst₂ ClientContinues (same_Some old c (sym at ∙ ap (slice_get clients) (sym here) ∙ c_at))
        (same_Some new d (sym (slice_get-set_same clients i new (slice_get_within clients i old at))
        ∙ ap (slice_get (set clients i new)) (sym here) ∙ d_at))
        continues
    | inr other ↦
        same_at clients proxy c d c_at (sym (slice_get-set_other clients i proxy new other) ∙ d_at)
  ];
}

pub lanes_same : (lanes : List Lanes) → Each (λ _ l m. LanesContinue l m) lanes lanes
lanes_same lanes = record {
  count = refl;
  each = λ proxy l m l_at m_at.
      subst (LanesContinue l) (same_Some l m (sym l_at ∙ m_at)) (record {
        requests = intake_same l.requests;
        replies = port_same l.replies;
        ended = λ ended. ended;
      });
}

-- the clients of these lanes are still theirs, as both go on
pub AreClients-later : (lanes later : List Lanes) (clients now : List Client) → AreClients lanes clients
    → Each (λ _ l m. LanesContinue l m) lanes later → ClientsContinue clients now → AreClients later now
AreClients-later lanes later clients now are continued clients_continue = record {
  count = clients_continue.count ∙ are.count ∙ sym continued.count;
  requests = λ proxy m d m_at d_at.
      let l = before proxy m m_at in
      let c = client_before proxy d d_at in
      same_lane_later c.0.requests d.requests l.0.requests m.requests (are.requests proxy l.0 c.0 l.1 c.1)
      (clients_continue.each proxy c.0 d c.1 d_at).requests (continued.each proxy l.0 m l.1 m_at).requests;
  replies = λ proxy m d m_at d_at.
      let l = before proxy m m_at in
      let c = client_before proxy d d_at in
      same_lane_later l.0.replies m.replies c.0.replies d.replies (are.replies proxy l.0 c.0 l.1 c.1)
      (continued.each proxy l.0 m l.1 m_at).replies (clients_continue.each proxy c.0 d c.1 d_at).replies;
}
  where
    before : (proxy : ℕ) (m : Lanes) → slice_get later proxy ≡ Some m
        → (l : Lanes) × (slice_get lanes proxy ≡ Some l)
    before proxy m at =
        let inside = slice_get_within later proxy m at in
        some_at lanes proxy (omega (arith, inside, continued.count))

    client_before : (proxy : ℕ) (d : Client) → slice_get now proxy ≡ Some d
        → (c : Client) × (slice_get clients proxy ≡ Some c)
    client_before proxy d at =
        let inside = slice_get_within now proxy d at in
        some_at clients proxy (omega (arith, inside, clients_continue.count))
