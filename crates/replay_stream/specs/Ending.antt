-- The end of a stream: its resolver and its proxies. This project's own.
use Rattle.std.specs.Prelude.{◌≡◌, ℕ, true, false, List, map, Option, Some, slice_get}
use Rattle.std.specs.List.{AllZip}
use Rattle.resolver.specs.Core.{Continues}
use Rattle.resolver.specs.Lanes.{Lanes, Each, LanesContinue}
use Rattle.resolver.specs.Resolver.{ResolverState, IsResolving, IsThrough}
use Rattle.replay_output.specs.declared.options.style.Style.{Style}
use Rattle.replay_stream.specs.declared.proxies.Proxy.{Proxy}
use Rattle.replay_stream.specs.declared.streamed.Streamed.{Streamed}
use Rattle.replay_stream.specs.Outlet.{HavePassedAll, StreamContinues}
use Rattle.replay_stream.specs.Proxies.{IsJoined, IsStreamedOf, Joined, outlets_of, threads_of}
use Rattle.replay_stream.specs.Sinks.{SinkState}
use Rattle.replay_workers.specs.Stops.{IsAccountedFor}

-- the same resolver later
pub record ResolverContinues (old new : ResolverState) : Type 0 where
  pub accounted : IsAccountedFor old → IsAccountedFor new
  pub resolving : IsResolving old → IsResolving new
  pub core : Continues old.core new.core
  pub lanes : Each (λ _ l m. LanesContinue l m) old.lanes new.lanes

-- the same resolver later, when nothing is left to do and its reply lanes are closed
pub record RunsThrough (old new : ResolverState) : Type 0 where
  pub continues : ResolverContinues old new
  pub through : IsThrough new
  pub closed : (proxy : ℕ) (l : Lanes) → slice_get new.lanes proxy ≡ Some l → l.replies.closed ≡ true

-- The stream of the proxies that were started has ended: their outlets have passed all answers on, and their threads were joined.
pub record EndsStream {S W : Type 0} (remaining : S → Option (List ℕ)) (state_of : W → SinkState) (style : Style)
    (before after : SinkState) (started : List (Proxy S W)) (streamed : Streamed W) : Type 0 where
  pub ended : List (Proxy S W)
  pub threads : map threads_of ended ≡ map threads_of started
  pub streams : StreamContinues style false streamed.failed before after (outlets_of started) (outlets_of ended)
  pub passed : HavePassedAll (outlets_of ended)
  pub joined : List (Joined W)
  pub each : AllZip (IsJoined remaining state_of) ended joined
  pub results : IsStreamedOf joined streamed
