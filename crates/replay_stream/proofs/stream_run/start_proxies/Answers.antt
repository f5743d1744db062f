use Rattle.std.proofs.Common.{◌∙◌}
use Rattle.replay_stream.specs.declared.outlet.Outlet.{Outlet}
use Rattle.replay_stream.specs.Proxies.{GivenThreads, IsNewOutlet, given_with}
use Rattle.replay_stream.proofs.Ending.{started_all, started_same}
use Rattle.replay_stream.proofs.stream_run.start_proxies.Goals as goal

pub returns-clause-given : goal.returns-clause-given
returns-clause-given g c =
    started_same (λ (o : Outlet) (t : GivenThreads g.row.S.Denot g.row.W.Denot). given_with o t) c.in_ok-proxies.proxies.items
    c.in_ok-tasks.tasks.items c.in_ok-proxies.ensures.outlets c.in_ok-proxies.ensures.threads ∙ c.in_ok-tasks.ensures.given

pub returns-clause-new : goal.returns-clause-new
returns-clause-new g c =
    started_all (λ (o : Outlet) (t : GivenThreads g.row.S.Denot g.row.W.Denot). IsNewOutlet o t.answers) c.in_ok-proxies.proxies.items
    c.in_ok-tasks.tasks.items c.in_ok-proxies.ensures.outlets c.in_ok-proxies.ensures.threads c.in_ok-tasks.ensures.new
