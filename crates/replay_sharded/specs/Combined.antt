-- What all shards have answered together, to every proxy. This project's own.
use Rattle.std.specs.Prelude.{◌≡◌, ◌≢◌, ℕ, ◌≤◌, ◌↔◌, ◌⊎◌, true, false, List, [], map, vec_capacity, vec_items, vec_len, Option, None, Some, slice_get, MatchOption}
use Rattle.std.specs.List.{All, AllZip}
use Rattle.limits.specs.declared.stop.Stop.{Stop}
use Rattle.replay_output.specs.declared.failures.ProxyFailure.{ProxyFailure}
use Rattle.replay_output.specs.declared.line.Line.{Line}
use Rattle.replay_output.specs.declared.options.style.Style.{Style}
use Rattle.replay_output.specs.Failures.{IsClean}
use Rattle.replay_output.specs.Line.{AreLines, answers_of}
use Rattle.replay_shards.specs.declared.answered.Answered.{Answered}
use Rattle.replay_shards.specs.Answered.{AreAnswersTogether, AreKept}
use Rattle.replay_shards.specs.Failures.{IsFailureTogether, IsFirstStop}
use Rattle.replay_sharded.specs.declared.combined.Combined.{Combined}
use Rattle.replay_sharded.specs.declared.room.Room.{Room}
use Rattle.replay_sharded.specs.declared.shard_run.ShardRun.{ShardRun}

-- the run is of that many proxies, and its lines keep the answers
pub record HasProxies (proxies : ℕ) (run : ShardRun) : Type 0 where
  pub answered : vec_len run.answered ≡ proxies
  pub failures : vec_len run.failures ≡ proxies
  pub kept : All AreKept run.answered.items

-- what each shard has answered to the proxy
abbrev pub AreOfProxy : ℕ → List ShardRun → List Answered → Type 0
AreOfProxy proxy runs each = AllZip (λ run own. slice_get run.answered.items proxy ≡ Some own) runs each

-- what failed of the proxy in each shard
abbrev pub AreFailuresOf : ℕ → List ShardRun → List ProxyFailure → Type 0
AreFailuresOf proxy runs each = AllZip (λ run own. slice_get run.failures.items proxy ≡ Some own) runs each

abbrev pub stop_of : ShardRun → Option Stop
stop_of run = run.stop

-- What a proxy is answered by all shards together, and what failed of it. If memory was refused for its lines, there are none, and it has a
-- loss.
pub record AreTogether (runs : List ShardRun) (proxy : ℕ) (lines : List Line) (failure : ProxyFailure) : Type 0 where
  pub each : List Answered
  pub of_runs : AreOfProxy proxy runs each
  pub answers : AreAnswersTogether each (answers_of lines) ⊎ ((lines ≡ []) × (failure.lost ≡ true))
  pub not_lost : failure.lost ≡ false → AreAnswersTogether each (answers_of lines)
  -- what failed in the shards
  pub failures : List ProxyFailure
  pub of_shards : AreFailuresOf proxy runs failures
  pub own : ProxyFailure
  pub together : IsFailureTogether failures own
  pub fault : failure.fault ≡ own.fault
  pub lost : own.lost ≡ true → failure.lost ≡ true

-- the runs of all shards, combined
pub record AreCombined (style : Style) (runs : List ShardRun) (combined : Combined) : Type 0 where
  pub lines_count : (proxies : ℕ) → All (HasProxies proxies) runs → vec_len combined.lines ≡ proxies
  pub failures_count : (proxies : ℕ) → All (HasProxies proxies) runs → vec_len combined.failures ≡ proxies
  pub each :
      (proxy : ℕ) (lines : List Line) (failure : ProxyFailure)
      → slice_get (map vec_items combined.lines.items) proxy ≡ Some lines → slice_get combined.failures.items proxy ≡ Some failure
      → AreTogether runs proxy lines failure
  pub lines : AreLines style (map vec_items combined.lines.items)
  pub complete : combined.complete ≡ true ↔ All (λ run. run.complete ≡ true) runs
  pub stop : MatchOption combined.stop (All (λ stop. stop ≡ None) (map stop_of runs)) (IsFirstStop (map stop_of runs))

-- nothing failed: every answer is there
pub record HasAllAnswers (combined : Combined) : Type 0 where
  pub clean : All IsClean combined.failures.items
  pub complete : combined.complete ≡ true
  pub no_stop : combined.stop ≡ None

-- Not of the meaning: how the code combines.

-- empty vectors with room for that many shards and proxies
pub record HasRoom (shards proxies : ℕ) (room : Room) : Type 0 where
  pub no_lines : room.lines.items ≡ []
  pub no_failures : room.failures.items ≡ []
  pub none_by_shard : room.failures_by_shard.items ≡ []
  pub no_stops : room.stops.items ≡ []
  pub lines : proxies ≤ vec_capacity room.lines
  pub failures : proxies ≤ vec_capacity room.failures
  pub by_shard : shards ≤ vec_capacity room.failures_by_shard
  pub stops : shards ≤ vec_capacity room.stops

-- the answers to the proxy were taken, and the others stay
pub record TakesOf (proxy : ℕ) (old new : ShardRun) : Type 0 where
  pub others : (other : ℕ) → other ≢ proxy → slice_get new.answered.items other ≡ slice_get old.answered.items other
  pub count : vec_len new.answered ≡ vec_len old.answered
  pub failures : new.failures ≡ old.failures
  pub complete : new.complete ≡ old.complete
  pub stop : new.stop ≡ old.stop
