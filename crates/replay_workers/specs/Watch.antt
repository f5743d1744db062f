-- What a look at all proxies finds. This project's own.
use Rattle.std.specs.Prelude.{◌≡◌, ℕ, ◌<◌, List, length, slice_index}
use Rattle.replay_workers.specs.declared.shares.reported_state.ReportedState.{ReportedState}
use Rattle.resolver.specs.Lanes.{Lanes, sent_to}

-- of each proxy, at its number: the reported state, and how many answers were sent to it
pub record Look : Type 0 where
  pub reported : List ReportedState
  pub sent : List ℕ

-- how many answers were sent
abbrev pub SeesSent : List Lanes → Look → Type 0
SeesSent lanes look =
    (proxy : ℕ) → proxy < length look.sent → slice_index look.sent proxy ≡ length (sent_to lanes proxy)
