use Rattle.std.proofs.Common.{◌≡◌, ◌++◌, take}
use Rattle.replay_summary.specs.Text.{proxy_objects}
use Rattle.replay_summary.proofs.text.json.put_proxies.Given as goal

abbrev pub invariant-loop-proxy : goal.invariant-loop-proxy
invariant-loop-proxy l = l.out.items ≡ l.initial.out.items ++ proxy_objects (take l.proxy l.summaries)
