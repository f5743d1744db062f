use Rattle.std.proofs.Common.{◌≡◌, ◌≤◌, ◌+◌, ◌++◌, List}
use Rattle.std.specs.Prelude.{vec_len, vec_capacity}
use Rattle.std.specs.List.{AllZip}
use Rattle.std.specs.Vec.Iter.{into_iter_items, into_iter_len}
use Rattle.replay_stream.specs.declared.proxies.Proxy.{Proxy}
use Rattle.replay_stream.specs.Proxies.{IsJoined, IsStreamedOf, Joined}
use Rattle.replay_stream.specs.Sinks.{state_by}
use Rattle.replay_stream.proofs.proxies.join_all.Given as goal

abbrev pub invariant-loop-proxy : goal.invariant-loop-proxy
invariant-loop-proxy g l = record {
  joined : (done : List (Proxy g.row.S.Denot g.row.W.Denot)) × (joined : List (Joined g.row.W.Denot))
      × (done ++ into_iter_items l.proxy-iterator ≡ l.fn.proxies.items)
      × AllZip (IsJoined g.S.Source.remaining (state_by g.W.Sink.given g.W.Sink.failures)) done joined × IsStreamedOf joined l.streamed;
  room : vec_len l.streamed.clients + into_iter_len l.proxy-iterator ≤ vec_capacity l.streamed.clients;
  failed : l.streamed.failed ≡ l.fn.streamed.failed;
}
