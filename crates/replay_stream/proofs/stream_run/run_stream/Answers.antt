use Rattle.std.proofs.Common.{◌≡◌, ℕ, arith, subst}
use Rattle.std.specs.Prelude.{negsuc, vec_len}
use Rattle.resolver.specs.Opens.{Opens}
use Rattle.replay_stream.proofs.stream_run.run_stream.Goals as goal

pub stream_through-requires-clause-opens : goal.stream_through-requires-clause-opens
stream_through-requires-clause-opens g c κs within =
    let options = c.args.options in
    let count : c.len.result ≡ vec_len c.args.readers = omega (arith, c.len.ensures) in
    subst (λ (n : ℕ). Opens (negsuc 0) n options.capacity options.window options.limit c.in_ok-resolver.resolver c.in_ok-resolver.clients.items)
    count c.in_ok-resolver.ensures.opens

pub returns : goal.returns
returns g c = record {
  run = c.stream_through.ensures.run;
  unwritten = c.stream_through.ensures.unwritten;
  recorders = c.stream_through.ensures.recorders;
  nothing = c.stream_through.ensures.nothing;
}
