use Rattle.std.proofs.Common.{◌≡◌, ◌<◌, ◌≤◌, ℕ, length, ◌∙◌, ap, sym, subst, vec_items, get_or, map, arith}
use Rattle.std.proofs.Math.Nat.{lt_of_not-le}
use Rattle.std.specs.Vec.{with_items}
use Rattle.std.proofs.lemmas.List.{with_items_is}
use Rattle.replay_output.specs.Line.{version_of_line}
use Rattle.keyspace.specs.storage.InOrder.{in_order_by}
use Rattle.replay_output.proofs.Numbered.{changed_to-more, count_next}
use Rattle.replay_output.proofs.report.lines.sort_lines.Goals as goal

pub loop-proxy-preserved : goal.loop-proxy-preserved
loop-proxy-preserved c =
    let sorted = in_order_by version_of_line in
    let now = c.loop-proxy.received in
    let proxy = c.loop-proxy.proxy in
    let lines = c.index-received-proxy.result in
    let slot = get_or now proxy lines in
    let long : length c.sort_by_version.new.items ≡ slot.len =
    c.sort_by_version.auto.items ∙ ap length c.deref_mut.ensures.value ∙ sym slot.ok.0 in
    changed_to-more vec_items sorted (map vec_items c.args.received.now) now proxy lines
    (with_items slot c.sort_by_version.new.items) (omega arith) c.index-received-proxy.is
    (with_items_is slot c.sort_by_version.new.items long ∙ c.in-Ok.ensures.sorted
    ∙ ap sorted (c.deref_mut.ensures.value ∙ ap vec_items (sym c.index-received-proxy.is)))
    c.loop-proxy.invariant

pub returns-in_default-clause-takes : goal.returns-in_default-clause-takes
returns-in_default-clause-takes c =
    let lines = c.index-received-proxy.result in
    let count = count_next vec_items (in_order_by version_of_line) (map vec_items c.args.received.now) c.loop-proxy.received
    c.loop-proxy.proxy lines (omega arith) c.index-received-proxy.is c.loop-proxy.invariant in
    let long = ap length (c.deref_mut.ensures.value ∙ ap vec_items (sym c.index-received-proxy.is)) in
    let many : 20 < length lines.items =
    lt_of_not-le (λ (few : length lines.items ≤ 20). let bad = c.in_default.ensures.few (omega (arith, few, long)) in cc) in
    subst (λ (n : ℕ). 20 < n) (sym count) many
