-- What a repeat is answered. Source: `Resolver.actor.cpp`, FoundationDB 7.1, which keeps the replies of each proxy until
-- the proxy has received them; when they are given up, and the answer `Never`, is this project's own.
use Rattle.std.specs.Prelude.{
  ℕ,
  ℤ,
  Bool,
  not,
  ◌&&◌,
  ◌==◌,
  int_le,
  if◌then◌else◌,
  List,
  [],
  ◌∷◌,
  Option,
  Some,
  None,
}
use Rattle.std.specs.Ordering.{int_eq}
use Rattle.std.specs.List.{list_any}
use Rattle.keyspace.specs.declared.reply.Reply.{Reply}
use Rattle.keyspace.specs.declared.answer.Answer.{Answer}
use Rattle.keyspace.specs.declared.answer.Answer.TheVariants as answers
use Rattle.keyspace.specs.Processed.{Processed}

-- whether a batch of the proxy among these says that it has received all up to the version
abbrev pub is_received : List Processed → ℕ → ℤ → Bool
is_received ps proxy version =
    list_any (λ p. (p.proxy == proxy) && int_le version p.batch.received) ps

-- the reply of the proxy's batch of this version, unless a later batch of the proxy has given it up
abbrev pub kept_reply : List Processed → ℕ → ℤ → Option Reply
kept_reply [] proxy version = None
kept_reply (p ∷ ps) proxy version =
    if (p.proxy == proxy) && int_eq p.batch.version version && not (is_received ps proxy version)
    then Some p.reply
    else kept_reply ps proxy version

abbrev pub reply_or_never : ℤ → Option Reply → Answer
reply_or_never version (Some reply) = answers.Reply reply
reply_or_never version None = answers.Never version

-- the answer to a repeat of the proxy's batch of this version
abbrev pub found : List Processed → ℕ → ℤ → Answer
found ps proxy version = reply_or_never version (kept_reply ps proxy version)
