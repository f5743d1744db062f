-- A resolver's parts, and the resolver that they are. This project's own.
use Rattle.std.specs.Prelude.{◌≡◌, ℕ, ◌<◌, ◌≤◌, ◌⊎◌, ◌≢◌, Bool, true, false, List, [], ◌∷◌, ◌++◌, length, map, Option, Some, None, IsSome, IfNone, All, option_to_list, slice_get}
use Rattle.std.specs.List.{sum_by}
use Rattle.keyspace.specs.declared.batch.Batch.{Batch}
use Rattle.keyspace.specs.declared.answer.Answer.{Answer}
use Rattle.lane.specs.Lane.{Lane, IntakeContinues, PortContinues, HasEnded}
use Rattle.resolver.specs.declared.client.Client.{Client}
use Rattle.limits.specs.declared.settings.TheConstants.{MAX_PROXIES}
use Rattle.resolver.specs.Core.{CoreState, IsPrefix}
use Rattle.resolver.specs.Lanes.{Lanes, LanesContinue, AreSameLists, all_ended, IsLookedThrough, IsFull}
use Rattle.resolver.specs.Resolver.{ResolverState, IsThrough, SameClient, AreClients, IsNewClient}

-- the resolver's ends of the lanes of a proxy, and the answer that the reply lane has handed back
pub record ProxyLanesView : Type 0 where
  pub lanes : Lanes
  pub waiting : Option Answer

abbrev pub lanes_of : List ProxyLanesView → List Lanes
lanes_of all_lanes = map (λ l. l.lanes) all_lanes

-- the answers owed to each proxy: the one that waits, and then those of the core
abbrev pub owed_with : List ProxyLanesView → List (List Answer) → List (List Answer)
owed_with [] owed = owed
owed_with (l ∷ all_lanes) [] = []
owed_with (l ∷ all_lanes) (answers ∷ owed) = (option_to_list l.waiting ++ answers) ∷ owed_with all_lanes owed

-- the parts of a resolver
pub record Parts : Type 0 where
  pub core : CoreState
  -- the lanes of each proxy, at its number, with its answer that waits
  pub all_lanes : List ProxyLanesView
  -- the pair of lanes from which the next turn begins to look
  pub next : ℕ
  -- the core was finished
  pub finished : Bool
  -- the reply lanes were closed
  pub closed : Bool

-- the resolver of these parts
abbrev pub resolver_of : Parts → ResolverState
resolver_of parts = record {
  core = record parts.core { owed = owed_with parts.all_lanes parts.core.owed };
  lanes = lanes_of parts.all_lanes;
  next = parts.next;
}

-- what holds of the parts of every resolver
pub record AreParts (parts : Parts) : Type 0 where
  -- there is a pair of lanes a proxy
  pub count : length parts.all_lanes ≡ length parts.core.owed
  pub few : length parts.all_lanes ≤ MAX_PROXIES
  pub some : 1 ≤ length parts.all_lanes
  pub in_range : parts.next ≤ length parts.all_lanes
  -- the core was finished once all had ended
  pub finished : parts.core.stop ≡ None → parts.finished ≡ all_ended (lanes_of parts.all_lanes)
  -- a lane that has ended was taken from to its end
  pub ended :
      (proxy : ℕ) (l : Lanes) → slice_get (lanes_of parts.all_lanes) proxy ≡ Some l → l.ended ≡ true → HasEnded l.requests
  -- the reply lanes are closed together, and only where no answer is still to come
  pub closed :
      (proxy : ℕ) (l : Lanes) → slice_get (lanes_of parts.all_lanes) proxy ≡ Some l → l.replies.closed ≡ parts.closed
  pub through : parts.closed ≡ true → IsThrough (resolver_of parts)

-- as many pairs of lanes as before, and this of each, before and after
pub record EachProxy (P : ℕ → ProxyLanesView → ProxyLanesView → Type 0) (old new : List ProxyLanesView) : Type 0 where
  pub count : length new ≡ length old
  pub each :
      (proxy : ℕ) (l m : ProxyLanesView) → slice_get old proxy ≡ Some l → slice_get new proxy ≡ Some m → P proxy l m

-- a take from the pair of lanes, of this batch or of none
pub record TakesFromProxy (batch : Option Batch) (old new : ProxyLanesView) : Type 0 where
  pub taken : new.lanes.requests.taken ≡ old.lanes.requests.taken ++ option_to_list batch
  pub through : IfNone batch (IsLookedThrough old.lanes new.lanes)
  pub requests : IntakeContinues old.lanes.requests new.lanes.requests
  pub ended : old.lanes.ended ≡ true → new.lanes.ended ≡ true
  pub still_open : IsSome batch → new.lanes.ended ≡ false
  pub at_end : new.lanes.ended ≡ true → HasEnded new.lanes.requests
  pub replies : new.lanes.replies ≡ old.lanes.replies
  pub waiting : new.waiting ≡ old.waiting

-- the answers made to the proxy of the pair of lanes: those sent, the one that waits, and those of the core
abbrev pub made_over : ProxyLanesView → List Answer → List Answer
made_over l owed = l.lanes.replies.sent ++ (option_to_list l.waiting ++ owed)

-- answers move from the owed ones to the sent ones
pub record Delivers (old new : ProxyLanesView) (owed_before owed_after : List Answer) : Type 0 where
  pub made : made_over new owed_after ≡ made_over old owed_before
  pub sent : IsPrefix old.lanes.replies.sent new.lanes.replies.sent
  pub full :
      (option_to_list new.waiting ++ owed_after ≢ []) → (new.lanes.replies.closed ≡ true)
      ⊎ IsFull old.lanes new.lanes
  pub requests : new.lanes.requests ≡ old.lanes.requests
  pub ended : new.lanes.ended ≡ old.lanes.ended
  pub replies : PortContinues old.lanes.replies new.lanes.replies
  pub closed : new.lanes.replies.closed ≡ old.lanes.replies.closed

-- the core is the same except for the answers that it owes
pub record OwesOnly (old new : CoreState) : Type 0 where
  pub count : length new.owed ≡ length old.owed
  pub same : new ≡ record old { owed = new.owed }

-- The pairs of lanes of these proxies were looked through, and nothing was taken from them. The others are as before.
pub record FindsNone (Looked : ℕ → Type 0) (old new : List ProxyLanesView) : Type 0 where
  pub looked : EachProxy (λ proxy l m. Looked proxy → TakesFromProxy None l m) old new
  pub others : EachProxy (λ proxy l m. (Looked proxy → ⊥) → m ≡ l) old new

-- This batch was taken from this proxy's pair of lanes, after those of these proxies were looked through. The others are as before.
pub record FindsOne (Looked : ℕ → Type 0) (proxy : ℕ) (batch : Batch) (old new : List ProxyLanesView) : Type 0 where
  pub known : proxy < length old
  pub found : EachProxy (λ other l m. other ≡ proxy → TakesFromProxy (Some batch) l m) old new
  pub looked : EachProxy (λ other l m. Looked other → TakesFromProxy None l m) old new
  pub others : EachProxy (λ other l m. (Looked other → ⊥) → other ≢ proxy → m ≡ l) old new

-- how many answers wait
abbrev pub waiting_count : List ProxyLanesView → ℕ
waiting_count all_lanes = sum_by (λ l. length (option_to_list l.waiting)) all_lanes

-- the pair of lanes with its reply lane closed
abbrev pub closed_proxy_lanes : ProxyLanesView → ProxyLanesView
closed_proxy_lanes l = record l { lanes = record l.lanes { replies = record l.lanes.replies { closed = true } } }

-- nothing was taken from the pair of lanes or sent over it
pub record AreNewLanes (l : ProxyLanesView) : Type 0 where
  pub taken : l.lanes.requests.taken ≡ []
  pub sent : l.lanes.replies.sent ≡ []
  pub closed : l.lanes.replies.closed ≡ false
  pub ended : l.lanes.ended ≡ false
  pub waiting : l.waiting ≡ None

-- n pairs of lanes and clients, all new, those of the same lanes at the same index
pub record AreConnected (capacity count : ℕ) (all_lanes : List ProxyLanesView) (clients : List Client) : Type 0 where
  pub proxy_lanes_count : length all_lanes ≡ count
  pub client_count : length clients ≡ count
  pub new_all_lanes : All AreNewLanes all_lanes
  pub new_clients : All (IsNewClient capacity) clients
  pub same : AreClients (lanes_of all_lanes) clients

-- *Lane* of both lanes of the pair, with its client, before and after, if no list has changed
pub record SettlesLanes (old : ProxyLanesView) (client_before : Client) (new : ProxyLanesView) (client_after : Client) : Type 0 where
  pub requests : Lane client_before.requests old.lanes.requests
  pub replies : Lane old.lanes.replies client_before.replies
  pub same : AreSameLists old.lanes new.lanes
  pub waiting : new.waiting ≡ old.waiting
  pub continues : LanesContinue old.lanes new.lanes
  pub at_end : (old.lanes.ended ≡ true → HasEnded old.lanes.requests) → new.lanes.ended ≡ true → HasEnded new.lanes.requests
  pub client : SameClient client_before client_after

-- as many pairs of lanes and clients as before, and that of each
pub record EachSettled (old : List ProxyLanesView) (clients_before : List Client) (new : List ProxyLanesView) (clients_after : List Client) : Type 0 where
  pub count : length new ≡ length old
  pub clients : length clients_after ≡ length clients_before
  pub each :
      (proxy : ℕ) (l m : ProxyLanesView) (c d : Client) → slice_get old proxy ≡ Some l → slice_get new proxy ≡ Some m →
      slice_get clients_before proxy ≡ Some c → slice_get clients_after proxy ≡ Some d → SettlesLanes l c m d
