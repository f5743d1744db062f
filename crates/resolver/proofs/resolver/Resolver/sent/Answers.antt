use Rattle.std.proofs.Common.{◌≡◌, length, sym, ap, subst, ◌∙◌, arith}
use Rattle.std.specs.Prelude.{List, Some, slice_get}
use Rattle.std.proofs.lemmas.Option.{slice_get-get_or}
use Rattle.resolver.specs.Lanes.{Lanes, sent_to}
use Rattle.resolver.specs.Resolver.{ResolverState}
use Rattle.resolver.specs.Parts.{ProxyLanesView, lanes_of}
use Rattle.resolver.proofs.AtIndex.{field_at, lanes_at}
use Rattle.resolver.proofs.resolver.Resolver.sent.Goals as goal

pub returns-in-Some : goal.returns-in-Some
returns-in-Some c = record {
  count =
      let all_lanes = c.self.inside.all_lanes.items in
      let proxy_lanes = c.in-Some.proxy_lanes.now in
      let lookup = c.in-Some.ensures.lookup in
      let seen = slice_get-get_or c.deref.result.now c.args.proxy proxy_lanes (omega arith) ∙ ap Some (sym lookup.1) in
      let at = subst (λ (ls : List ProxyLanesView). slice_get ls c.args.proxy ≡ Some proxy_lanes) c.deref.ensures.value seen in
      let sent = field_at (λ (l : Lanes). l.replies.sent) (lanes_of all_lanes) c.args.proxy proxy_lanes.lanes
      (lanes_at all_lanes c.args.proxy proxy_lanes at) in
      c.sent.ensures.count ∙ ap length (sym sent)
      ∙ ap (λ (r : ResolverState). length (sent_to r.lanes c.args.proxy)) c.self.view_is;
}
