use Rattle.std.proofs.Common.{◌≡◌, ap, ◌∙◌, arith, length, ◌+◌}
use Rattle.resolver.specs.Owed.{owed_count}
use Rattle.resolver.specs.Parts.{waiting_count, owed_with}
use Rattle.resolver.proofs.AtIndex.{owed_with-count}
use Rattle.resolver.proofs.resolver.Resolver.owed.Goals as goal

pub overflow_add-result : goal.overflow_add-result
overflow_add-result c =
    let long = ap length c.deref.ensures.value in
    omega (arith, c.owed.ensures.few, c.waiting.ensures.few, c.self.invariant.few, long)

pub returns : goal.returns
returns c = record {
  count =
      let counted = owed_with-count c.self.inside.all_lanes.items c.self.inside.core.owed c.self.invariant.count in
      let waits = c.waiting.ensures.count ∙ ap waiting_count c.deref.ensures.value in
      let both : c.owed.result + c.waiting.result ≡ owed_count (owed_with c.self.inside.all_lanes.items c.self.inside.core.owed) =
      omega (arith, counted, c.owed.ensures.count, waits) in
      both ∙ ap (λ r. owed_count r.core.owed) c.self.view_is;
}
