use Rattle.std.proofs.Common.{◌≡◌, ◌≤ℤ◌, pos, w64, rules, arith, sym, ap, ◌∙◌}
use Rattle.std.specs.Range.{range_inclusive_start, range_inclusive_end}
use Rattle.std.proofs.lemmas.Int.{ints, to_z-of_z}
use Rattle.chain.specs.Replies.{is_up_to}
use Rattle.chain.proofs.KeptKeys.{none_up_to}
use Rattle.chain.proofs.replies.least_up_to.Goals as goal

pub returns-in_err-key-clause-none : goal.returns-in_err-key-clause-none
returns-in_err-key-clause-none c = rw c.from_residual.ensures (
    let low = range_inclusive_start c.new.result in
    let high = range_inclusive_end c.new.result in
    let high_is : high ≡ (c.args.proxy, c.args.version) =
    c.new.ensures.end ∙ ap (λ v. (c.args.proxy, v)) (to_z-of_z w64 c.args.version c.ranges.version) in
    let negative : low.1 ≤ℤ pos 0 = rw c.new.ensures.start (omega (arith, ints)) in
    λ key up_to. none_up_to c.args.kept.now low high (ap (λ p. p.0) c.new.ensures.start
    ∙ sym (ap (λ p. p.0) high_is)) negative c.requires.filed
    ((c.range.ensures.in_range (search rules)).5 c.in_err-key.ensures.steps.0)
    key (ap (λ p. is_up_to p.0 p.1 key) high_is ∙ up_to))
