-- The share of each proxy in what a resolver holds, and who keeps it. This project's own.
use Rattle.std.specs.Prelude.{ℕ, ◌+◌, ◌/◌, ◌<◌, ◌≤◌, length}
use Rattle.chain.specs.declared.gate.TheConstants.{MAX_HELD}
use Rattle.resolver.specs.declared.client.Client.{Client}
use Rattle.resolver.specs.Core.{made_to}
use Rattle.resolver.specs.Lanes.{taken_from, sent_to}
use Rattle.resolver.specs.Resolver.{ResolverState}

-- the share of each of n proxies in the most batches that are held, rounded down
abbrev pub share_of : ℕ → ℕ
share_of proxies = MAX_HELD / proxies

-- more than this number of batches of the proxy were taken for which no answer was made
abbrev pub HasMoreUnanswered : ℕ → ℕ → ResolverState → Type 0
HasMoreUnanswered share proxy r =
    length (made_to proxy (sent_to r.lanes) r.core) + share < length (taken_from r.lanes proxy)

-- the client has at most this number of batches sent for which it has received no answer
abbrev pub KeepsShare : ℕ → Client → Type 0
KeepsShare share c = length c.requests.sent ≤ length c.replies.taken + share
