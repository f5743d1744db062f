-- What the outlets of the proxies have printed and passed on. This project's own.
use Rattle.std.specs.Prelude.{◌≡◌, ℕ, ◌<◌, Bool, true, false, List, [], ◌++◌, length, Option, None, Some, option_to_list, slice_get}
use Rattle.std.specs.List.{All, flat_map}
use Rattle.keyspace.specs.declared.answer.Answer.{Answer}
use Rattle.lane.specs.Lane.{PortView, PortContinues, IntakeContinues, HasEnded}
use Rattle.replay_output.specs.declared.options.style.Style.{Style}
use Rattle.replay_output.specs.Lines.{line}
use Rattle.replay_output.specs.Streamed.{Printed, printed_for, stream_text}
use Rattle.replay_stream.specs.declared.outlet.Outlet.{Outlet}
use Rattle.replay_stream.specs.Sinks.{FailsIn, SinkState, Takes}

-- no line of this proxy was lost, and standard output hasn't failed
abbrev pub is_complete : Bool → Bool → Bool
is_complete true failed = false
is_complete false true = false
is_complete false false = true

-- These answers were passed on to the recorder, if there is one. The last one may wait.
abbrev pub PassesOn : Option (PortView Answer) → Option (PortView Answer) → Option Answer → Option Answer → List Answer → Type 0
PassesOn None None was waits answers = Unit {0}
PassesOn None (Some new) was waits answers = ⊥
PassesOn (Some old) None was waits answers = ⊥
PassesOn (Some old) (Some new) was waits answers =
    PortContinues old new
    × (new.sent ++ option_to_list waits ≡ (old.sent ++ option_to_list was) ++ answers)

-- the recorder's lane is closed, if there is one
abbrev pub IsClosed : Option (PortView Answer) → Type 0
IsClosed None = Unit {0}
IsClosed (Some records) = records.closed ≡ true

-- The same outlet later. These answers to its proxy were printed, those after them were dropped, and all were passed on. None is
-- dropped while the outlet works, and none is printed once it has failed.
pub record OutletContinues (printed dropped : List Answer) (was is : Bool) (old new : Outlet) : Type 0 where
  pub replies : IntakeContinues old.replies new.replies
  pub proxy : new.proxy ≡ old.proxy
  pub taken : new.replies.taken ≡ old.replies.taken ++ (printed ++ dropped)
  pub passed : PassesOn old.records new.records old.waiting new.waiting (printed ++ dropped)
  pub none_dropped : is ≡ true → dropped ≡ []
  pub none_printed : was ≡ false → printed ≡ []
  pub stays : is ≡ true → was ≡ true

-- What a writer was given of this text: all of it, or a prefix if it has failed.
abbrev pub TookText : Bool → SinkState → SinkState → List ℕ → Type 0
TookText false before after text = Takes before after text
TookText true before after text = FailsIn before after text

-- One outlet has passed some answers on, and printed them by a writer that had failed or not.
pub record PassesSome (style : Style) (had_failed has_failed : Bool) (before after : SinkState) (old new : Outlet) : Type 0 where
  pub printed : List Answer
  pub dropped : List Answer
  pub continues : OutletContinues printed dropped (is_complete old.lost had_failed) (is_complete new.lost has_failed) old new
  pub text : had_failed ≡ false → TookText has_failed before after (flat_map (line style old.proxy) printed)
  pub nothing : had_failed ≡ true → (has_failed ≡ true) × (after ≡ before)

-- as many outlets as before, and this of each
pub record EachOutlet (P : ℕ → Outlet → Outlet → Type 0) (old new : List Outlet) : Type 0 where
  pub count : length new ≡ length old
  pub each : (proxy : ℕ) (l m : Outlet) → slice_get old proxy ≡ Some l → slice_get new proxy ≡ Some m → P proxy l m

-- All outlets have passed some answers on, and printed them in this order.
pub record StreamContinues (style : Style) (had_failed has_failed : Bool) (before after : SinkState) (old new : List Outlet)
    : Type 0 where
  pub printed : List Printed
  pub known : All (λ (p : Printed). p.proxy < length old) printed
  pub each :
      EachOutlet (λ proxy l m. (dropped : List Answer)
      × OutletContinues (printed_for proxy printed) dropped (is_complete l.lost had_failed) (is_complete m.lost has_failed) l m) old new
  pub text : had_failed ≡ false → TookText has_failed before after (stream_text style printed)
  pub nothing : had_failed ≡ true → (printed ≡ []) × ((has_failed ≡ true) × (after ≡ before))

-- each outlet has the number of its place
abbrev pub AreNumbered : List Outlet → Type 0
AreNumbered outlets = (proxy : ℕ) (l : Outlet) → slice_get outlets proxy ≡ Some l → l.proxy ≡ proxy

-- all answers to the proxy were taken and passed on
pub record HasPassedAll (outlet : Outlet) : Type 0 where
  pub ended : HasEnded outlet.replies
  pub none_waits : outlet.waiting ≡ None
  pub closed : IsClosed outlet.records

-- each of these outlets has
abbrev pub HavePassedAll : List Outlet → Type 0
HavePassedAll outlets = (proxy : ℕ) (l : Outlet) → slice_get outlets proxy ≡ Some l → HasPassedAll l

-- However a stream has come to the old outlets, it has come to the new ones.
abbrev pub StreamsOn : Style → Bool → Bool → SinkState → SinkState → List Outlet → List Outlet → Type 0
StreamsOn style had_failed has_failed before after old new =
    (failed_first : Bool) (first : SinkState) (outlets : List Outlet)
    → StreamContinues style failed_first had_failed first before outlets old
    → StreamContinues style failed_first has_failed first after outlets new
