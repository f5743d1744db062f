use Rattle.std.proofs.Common.{[], map, get_or}
use Rattle.proved_callers.proofs.served_proxies.serve.Given as goal

abbrev pub ghost-receive_all : goal.ghost-receive_all
ghost-receive_all a =
    let sent = map (λ c. c.requests.sent) a.clients.now in (get_or sent 0 [], get_or sent 1 [])
